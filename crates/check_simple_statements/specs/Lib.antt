pub use Rattle.check_operands
pub use Rattle.check_expressions
pub use Rattle.check_declared
pub mod Rules
pub mod Spots
pub mod Views
pub mod Whole
