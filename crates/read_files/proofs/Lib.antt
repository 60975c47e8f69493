pub mod Ascending
pub mod Files
pub mod Images
pub mod Shapes
pub mod Tables
