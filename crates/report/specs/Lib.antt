pub mod Reporting
pub mod Judged
pub mod ReadTables
