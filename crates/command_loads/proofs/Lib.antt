mod Alone
mod Faulty
mod FromFiles
mod Joining
mod Reading
mod Wanting
