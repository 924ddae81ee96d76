pub mod Ahead
pub mod Branches
pub mod Counted
pub mod Laws
pub mod Numbers
pub mod Places
pub mod Walk
