pub mod Names
pub mod Once
pub mod Twins
pub mod Measures
pub mod Labels
pub mod TypesFit
pub mod FacesFit
pub mod InterfacesFit
