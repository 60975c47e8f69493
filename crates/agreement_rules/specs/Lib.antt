pub mod Agreement
pub mod Layout
pub mod Operators
pub mod Own
pub mod Reaches
pub mod Results
pub mod Stands
