pub mod Rows
pub mod Stepping
