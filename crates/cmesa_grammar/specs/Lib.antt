pub mod Answer
pub mod Grammar
pub mod Nests
pub mod Nodes
pub mod Plain
pub mod ReadConfigs
pub mod Syntax
