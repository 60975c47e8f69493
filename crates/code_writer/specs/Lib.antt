pub mod Bounds
pub mod Cursors
pub mod Drafts
pub mod Parts
pub mod Procedures
pub mod Scopes
