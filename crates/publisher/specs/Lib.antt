pub mod Generations
pub mod History
pub mod Law
pub mod Publications
pub mod Showing
