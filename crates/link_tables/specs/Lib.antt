pub mod Gathered
pub mod Keys
pub mod Linked
pub mod Modules
pub mod Parts
pub mod Passes
pub mod Wanting
