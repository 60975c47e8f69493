pub mod Bodies
pub mod LawProofs
pub mod Lists
pub mod Modules
pub mod Texts
