pub use Rattle.written_trees
pub mod Asked
pub mod Laws
pub mod TextFaults
pub mod Texts
