mod Suffixed
mod Turns
