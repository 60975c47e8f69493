pub mod Clauses
pub mod GatherLaws
pub mod ModuleForms
pub mod PartLaws
