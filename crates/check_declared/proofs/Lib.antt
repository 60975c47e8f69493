pub mod NameLaws
pub mod VariableLoops
