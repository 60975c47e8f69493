pub use Rattle.read_files
pub mod Laws
