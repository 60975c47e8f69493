pub mod ComponentLaws
pub mod FieldLoop
pub mod KeyLaws
pub mod ReachedLaws
pub mod SuffixLaws
