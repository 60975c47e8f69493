pub mod Faces
pub mod Instances
pub mod Modules
pub mod Objects
pub mod Once
