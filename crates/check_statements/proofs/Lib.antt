pub mod Clauses
pub mod LabelLaws
pub mod ListLaws
pub mod WholeLaws
