mod Ordered
mod Placed
