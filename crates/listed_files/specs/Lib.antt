pub mod Listings
pub mod Laws
