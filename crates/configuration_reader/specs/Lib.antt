pub mod Check
pub mod Configuration
