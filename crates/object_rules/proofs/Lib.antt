mod Examples
pub mod AllFit
pub mod NumberLaws
pub mod FillingLaws
pub mod InstructionLaws
pub mod CatchLaws
pub mod ModuleLaws
pub mod ImageLaws
pub mod RangeLaws
pub mod SameTypes
pub mod WholeLaws
pub mod ObjectLaws
pub mod ImageFileLaws
pub mod Versions
