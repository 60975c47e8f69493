pub use Rattle.object_writers
pub mod Laws
