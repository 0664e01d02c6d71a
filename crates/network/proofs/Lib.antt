pub mod Routes
pub mod Rounds
pub mod Same
