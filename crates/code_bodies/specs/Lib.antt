pub use Rattle.code_trees
pub mod Reads
