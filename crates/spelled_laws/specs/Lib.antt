pub use Rattle.face_rules
pub mod Laws
