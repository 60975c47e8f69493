pub mod Grammars
pub mod Parsing
pub mod Names
pub mod ReadNames
pub mod Running
