pub mod Integers
pub mod LastOnes
pub mod ReadParts
