pub mod RewrittenLaws
