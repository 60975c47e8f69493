pub mod Disjoint
pub mod Nested
