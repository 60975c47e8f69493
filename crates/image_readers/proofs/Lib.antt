pub mod Turns
pub mod Linking
pub mod Made
pub mod Sameness
