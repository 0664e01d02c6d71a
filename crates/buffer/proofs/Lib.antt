pub mod Puts
pub mod Builds
pub mod Collects
pub mod Linked
