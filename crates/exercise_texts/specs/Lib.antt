pub mod EmptyInput
pub mod ExerciseFolder
pub mod Files
pub mod Interfaces
pub mod Texts
