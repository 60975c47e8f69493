pub mod Indexed
pub mod Arms
pub mod Seeking
pub mod Raising
pub mod Leaving
pub mod Jumping
pub mod Laws
