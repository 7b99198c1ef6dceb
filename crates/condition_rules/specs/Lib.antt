pub mod Ifs
