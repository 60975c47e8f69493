pub mod Exact
pub mod Branches
pub mod Loops
pub mod Leading
pub mod Names
pub mod Choosing
pub mod Taking
