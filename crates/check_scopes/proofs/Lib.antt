pub mod Copying
pub mod Indexes
pub mod Innermost
pub mod Laws
pub mod LayerLaws
pub mod Marking
