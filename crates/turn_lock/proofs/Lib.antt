mod Lists
mod Keeps
mod Seats
