mod Others
mod Turns
