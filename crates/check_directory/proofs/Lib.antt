pub mod ElementLaws
pub mod EntryLaws
pub mod FoundLaws
pub mod ItemLaws
pub mod KeptLaws
pub mod ListLaws
pub mod OfferLaws
pub mod PlaceLaws
