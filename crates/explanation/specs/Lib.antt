pub mod HeldLimits
pub mod Laws
pub mod Lists
pub mod Steps
pub mod Telling
pub mod Writing
