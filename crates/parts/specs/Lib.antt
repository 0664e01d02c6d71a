pub mod Study
pub mod Tests
pub mod Steps
