pub mod Views
pub mod Raising
pub mod Stepping
pub mod Alike
pub mod Escaping
pub mod Surveys
