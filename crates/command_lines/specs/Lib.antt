pub use Rattle.command_passes
pub mod Endings
pub mod Words
