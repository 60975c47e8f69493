pub mod BodyRooms
pub mod FieldWords
pub mod Linked
pub mod Placing
pub mod Whole
pub mod Written
