pub use Rattle.face_rules
pub mod Elements
pub mod Whole
