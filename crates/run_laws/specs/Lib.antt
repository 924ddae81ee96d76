pub mod Figures
pub mod Output
pub mod Rows
