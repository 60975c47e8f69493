pub mod Edges
pub mod Going
pub mod Reach
pub mod Table
pub mod Walks
