pub mod Bytes
pub mod Exercises
pub mod Forms
pub mod Machines
pub mod Printing
