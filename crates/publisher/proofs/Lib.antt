pub mod Prefixes
pub mod Histories
pub mod Adding
pub mod Rules
