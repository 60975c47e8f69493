pub use Rattle.check_declared.specs.check_jumps
pub use Rattle.check_declared
pub mod Asks
pub mod Turns
pub mod Views
