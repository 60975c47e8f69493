pub mod Low
pub mod Narrow
pub mod OwnLow
pub mod TreeLow
pub mod Whole
