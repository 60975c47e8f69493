pub use Rattle.linked_objects
pub mod Bound
pub mod Laws
pub mod Made
pub mod Objects
pub mod Parsed
pub mod Stops
