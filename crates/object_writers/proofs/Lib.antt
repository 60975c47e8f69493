pub mod Lists
pub mod Loops
pub mod Chains
pub mod CodeLaws
pub mod ModuleLaws
pub mod ImageLaws
pub mod Sizes
pub mod WholeLaws
