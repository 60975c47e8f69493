pub use Rattle.check_faces
pub mod Again
pub mod Forms
pub mod Views
