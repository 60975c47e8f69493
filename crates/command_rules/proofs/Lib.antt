pub mod PassLaws
pub mod Passing
pub mod Stopping
pub mod Order
pub mod Never
