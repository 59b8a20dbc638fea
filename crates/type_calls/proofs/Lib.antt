mod Fewer
mod Turns
