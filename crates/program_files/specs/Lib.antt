pub mod Files
pub mod Objects
