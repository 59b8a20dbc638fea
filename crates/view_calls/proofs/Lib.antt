mod Around
mod Turns
