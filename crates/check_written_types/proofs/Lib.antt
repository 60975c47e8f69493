pub mod Clauses
pub mod FieldLoops
pub mod FieldTurns
