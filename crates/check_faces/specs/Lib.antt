pub mod Ahead
pub mod Giving
pub mod Offers
