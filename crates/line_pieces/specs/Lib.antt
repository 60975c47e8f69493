pub mod Outputs
pub mod Joined
pub mod Texts
