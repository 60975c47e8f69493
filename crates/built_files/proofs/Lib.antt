pub mod CodeFits
pub mod Modules
pub mod ObjectFits
pub mod Opcodes
