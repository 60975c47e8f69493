pub mod Taking
pub mod OnePlan
pub mod Following
pub mod Circling
mod Examples
