pub mod Lines
pub mod Types
pub mod Interfaces
pub mod Code
pub mod Objects
pub mod Images
pub mod Laws
