pub mod Laws
pub mod Outermost
pub mod Sources
pub mod Together
