pub mod InterfaceLaws
pub mod ModuleLaws
