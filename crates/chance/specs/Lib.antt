pub mod Chance
