pub use Rattle.machine_ready
pub use Rattle.link_tables
pub mod Built
pub mod Laws
pub mod Programs
pub mod Single
