mod Naming
mod Read
mod Surveyed
mod Texts
