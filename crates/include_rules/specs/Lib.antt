pub mod Laws
pub mod Naming
pub mod Order
pub mod Plans
pub mod Stale
