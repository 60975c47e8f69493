pub mod Lean
pub mod Operands
pub mod Whole
