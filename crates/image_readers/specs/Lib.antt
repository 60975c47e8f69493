pub mod Paths
pub mod Tables
pub mod Rows
pub mod Whole
