pub mod Exporters
pub mod Laws
pub mod LoadFaults
pub mod Loaded
pub mod Parts
pub mod SameFaces
pub mod Wanted
