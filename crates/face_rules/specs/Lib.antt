pub mod FaceForms
pub mod InterfaceForms
pub mod Layers
pub mod Sorts
pub mod TypeForms
