mod Examples
pub mod FilesPut
pub mod InterfaceBytes
pub mod LinkLines
