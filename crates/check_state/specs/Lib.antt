pub mod Ascending
pub mod Declaring
pub mod Gives
pub mod Growing
pub mod Views
