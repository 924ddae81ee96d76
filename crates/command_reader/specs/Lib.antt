pub mod Index
pub mod Kept
pub mod Memory
pub mod Options
