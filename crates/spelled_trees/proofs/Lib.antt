pub mod Apart
pub mod Beneath
pub mod Gone
pub mod Parsed
pub mod Trees
