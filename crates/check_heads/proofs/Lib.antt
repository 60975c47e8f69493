pub mod AgainLaws
pub mod DefinedLaws
pub mod HeadingLaws
pub mod ItemLaws
pub mod TakenHeads
