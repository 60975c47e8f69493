pub mod Answering
pub mod Building
pub mod Copying
pub mod InOrder
pub mod Making
pub mod Naming
pub mod OneTree
