pub mod Fitting
pub mod Names
pub mod OneAnswer
pub mod Putting
