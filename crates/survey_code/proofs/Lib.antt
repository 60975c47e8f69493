mod Building
mod Closing
mod Endings
mod Examples
mod Holding
mod Leading
mod Listing
mod Marking
mod Outward
mod Passings
mod Placing
mod Raising
pub mod Reading
mod Rows
mod Starting
pub mod Standing
mod Stopping
