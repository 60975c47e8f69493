pub mod HeadClauses
pub mod StmtForms
