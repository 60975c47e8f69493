pub use Rattle.mesa_base
pub mod Counts
pub mod Marks
pub mod Scopes
pub mod Shows
