pub mod Walk
pub mod Round
