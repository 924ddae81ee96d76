pub mod Fields
pub mod Adding
pub mod Laws
