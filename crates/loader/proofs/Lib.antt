mod Lists
mod Obeying
mod OptionWords
mod Refused
mod Tickets
