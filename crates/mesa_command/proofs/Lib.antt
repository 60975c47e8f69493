mod Behind
mod Calls
mod Ending
mod Exercised
mod Files
mod Filing
mod Forming
mod Printed
