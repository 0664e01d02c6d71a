pub mod Functions
pub mod Ring
