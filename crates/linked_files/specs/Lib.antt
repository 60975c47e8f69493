pub use Rattle.spelled_trees
pub use Rattle.read_files
pub use Rattle.bound_images
pub mod Laws
