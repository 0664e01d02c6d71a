pub mod Linked
pub mod Says
pub mod Ring
