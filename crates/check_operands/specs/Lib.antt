pub use Rattle.check_selectors.specs.check_values
pub use Rattle.check_selectors
pub mod Folds
pub mod Lists
pub mod Runs
pub mod Views
