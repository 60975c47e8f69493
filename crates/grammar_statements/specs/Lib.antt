pub mod FirstTokens
pub mod ReadTails
pub mod ReadTurns
