pub mod Linked
pub mod Entered
pub mod Made
pub mod Lookups
pub mod Wholes
