pub use Rattle.check_locals
pub mod Rules
pub mod Turns
pub mod Views
