mod Firsts
mod Rising
mod SoFar
mod Starts
mod Tables
mod Walked
