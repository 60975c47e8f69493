mod Faults
mod Holding
mod Listed
mod Read
mod Upgraded
