pub mod FieldLaws
pub mod HexLaws
pub mod FormLaws
pub mod HeadingLaws
