pub mod Laws
pub mod Sizes
pub mod UsedItems
pub mod Weights
