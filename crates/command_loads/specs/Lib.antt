pub mod Lacking
pub mod Loaded
pub mod Stops
