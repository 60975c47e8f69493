pub mod Laws
pub mod TextSizes
