pub mod Forms
pub mod Names
pub mod Reads
pub mod Files
pub mod Opening
pub mod Lawful
pub mod Seen
pub mod Written
