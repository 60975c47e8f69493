pub mod Turns
pub mod Chains
pub mod LineLaws
pub mod InstanceLaws
