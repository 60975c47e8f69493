pub mod Bodies
pub mod FirstCases
pub mod Views
