pub mod DepthLaws
pub mod ElementLaws
