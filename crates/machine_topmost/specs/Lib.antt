pub mod Fits
pub mod Flat
pub mod Laws
pub mod Running
pub mod Shown
