pub mod TypeLaws
pub mod PathLaws
pub mod SameListing
mod Examples
