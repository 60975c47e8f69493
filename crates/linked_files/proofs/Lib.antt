pub mod Entries
pub mod Images
pub mod Known
pub mod Links
pub mod Needs
pub mod Offers
