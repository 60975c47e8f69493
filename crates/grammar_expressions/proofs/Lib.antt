pub mod FieldLoops
pub mod RunTurns
