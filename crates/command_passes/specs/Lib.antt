pub use Rattle.command_rules
pub use Rattle.command_rules.specs.checked_texts
pub mod Asking
pub mod Filed
pub mod Kinds
pub mod Shelves
pub mod Stops
