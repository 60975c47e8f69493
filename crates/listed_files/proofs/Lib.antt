pub mod SameImages
pub mod Exact
mod Examples
