pub mod FromAnswers
pub mod Gathering
pub mod Marking
pub mod Noting
pub mod Passing
pub mod Rows
pub mod WholeImage
