pub mod BuiltIn
pub mod Codes
pub mod Faces
pub mod Images
pub mod Interfaces
pub mod Lists
pub mod Objects
