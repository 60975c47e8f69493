pub mod Index
pub mod Laws
pub mod Search
pub mod Sought
pub mod Sweep
pub mod Tables
