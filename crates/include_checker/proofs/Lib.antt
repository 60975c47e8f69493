mod Carried
pub mod Plans
pub mod Rows
pub mod Staling
pub mod Taking
pub mod Walking
