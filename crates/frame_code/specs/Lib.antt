pub use Rattle.code_rules
pub mod Code
pub mod Heads
pub mod Rooms
