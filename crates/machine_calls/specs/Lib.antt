pub mod Started
pub mod Hosts
pub mod Linking
pub mod Hosting
