pub use Rattle.check_state
pub mod Modules
pub mod Starting
