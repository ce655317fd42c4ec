mod Exact
mod Written
