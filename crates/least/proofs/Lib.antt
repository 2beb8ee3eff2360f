mod Known
mod Least
