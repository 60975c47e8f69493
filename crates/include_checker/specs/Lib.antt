pub mod Arranging
pub mod Graphs
pub mod Named
pub mod Stamps
pub mod Ways
