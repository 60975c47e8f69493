pub mod Offered
pub mod Started
pub mod Trees
