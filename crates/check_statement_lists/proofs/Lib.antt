pub mod Chaining
pub mod Giving
pub mod ListLaws
