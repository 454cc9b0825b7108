mod Changes
mod Lengths
