pub mod Clauses
pub mod Folding
pub mod ListLaws
pub mod RunLaws
