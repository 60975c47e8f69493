pub mod Nests
pub mod Runs
pub mod Tails
