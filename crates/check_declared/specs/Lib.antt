pub use Rattle.check_jumps
pub mod Naming
pub mod Views
