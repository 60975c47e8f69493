pub use Rattle.built_files
pub mod Laws
