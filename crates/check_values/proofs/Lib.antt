pub mod LongForms
pub mod NumberForms
pub mod OperationLaws
