mod Latest
mod Meanings
mod Opened
