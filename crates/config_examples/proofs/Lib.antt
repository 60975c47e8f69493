mod Counts
mod Records
