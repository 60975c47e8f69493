pub mod Turns
pub mod Wholes
pub mod PartLaws
