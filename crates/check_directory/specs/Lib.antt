pub mod Interfaces
pub mod Items
pub mod Kept
pub mod Lists
