pub mod Images
pub mod Kept
pub mod Sums
pub mod Totals
pub mod Wants
