mod Counted
mod Ended
mod Forming
mod Letters
mod Planning
mod Running
mod Told
