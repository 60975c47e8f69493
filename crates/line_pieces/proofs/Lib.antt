mod Joining
mod Received
