pub mod PackedDigits
pub mod KeptName
