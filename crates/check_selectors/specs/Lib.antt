pub use Rattle.check_values
pub mod Components
pub mod Keys
pub mod Views
