pub mod Upgraded
mod Whole
