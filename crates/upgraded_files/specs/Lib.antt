pub mod Upgraded
