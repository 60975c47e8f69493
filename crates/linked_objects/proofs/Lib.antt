pub mod Copies
pub mod Filed
pub mod Linked
pub mod Versions
