pub mod Escapes
pub mod Laws
pub mod Reached
pub mod Survey
