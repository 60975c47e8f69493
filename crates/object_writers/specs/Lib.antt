pub use Rattle.interface_writers
pub mod CodeBytes
pub mod ObjectBytes
pub mod Spelling
