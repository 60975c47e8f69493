pub mod ArmExamples
pub mod CountExamples
pub mod Expressions
pub mod Limits
pub mod Longs
pub mod Places
pub mod Statements
