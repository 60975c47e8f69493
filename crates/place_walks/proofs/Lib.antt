pub mod Cells
pub mod Closing
pub mod Marking
pub mod Tables
