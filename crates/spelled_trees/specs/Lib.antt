pub use Rattle.link_tables
pub mod Laws
pub mod Names
pub mod Paths
