pub mod Old
pub mod Convert
pub mod Claims
pub mod Steps
