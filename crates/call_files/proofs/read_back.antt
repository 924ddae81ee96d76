pub mod Addresses
pub mod Fields
pub mod Numbers
pub mod Records
pub mod Routes
pub mod Rows
pub mod Texts
