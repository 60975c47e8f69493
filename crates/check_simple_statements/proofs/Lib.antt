pub mod Chains
pub mod Clauses
pub mod HoldingLaws
pub mod JumpClauses
pub mod SpotLaws
pub mod TargetLaws
pub mod TestLaws
pub mod WholeLaws
