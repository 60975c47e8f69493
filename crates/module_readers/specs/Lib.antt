pub mod Operands
pub mod Behind
