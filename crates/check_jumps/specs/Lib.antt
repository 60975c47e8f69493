pub mod Arms
pub mod Views
