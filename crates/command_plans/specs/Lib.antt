pub mod Finding
pub mod Gathering
pub mod Made
pub mod Reports
