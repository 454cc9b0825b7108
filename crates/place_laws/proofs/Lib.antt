mod Entries
mod Running
mod Readying
