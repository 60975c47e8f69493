pub mod Lists
pub mod Parting
pub mod Once
pub mod Faces
pub mod Fitting
pub mod Counting
pub mod Exporting
pub mod Faultless
pub mod Wanting
pub mod Naming
pub mod InOrder
pub mod Alike
mod Examples
