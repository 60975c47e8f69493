pub mod Answered
pub mod Deeper
pub mod Ending
pub mod FrontSteps
