mod InOrder
mod Kept
mod Ones
mod Passing
mod Sizes
mod Stamps
mod Verdicts
