pub mod Behind
pub mod OneFile
pub mod Turns
