pub use Rattle.check_rules
pub mod Gathering
pub mod Parts
