pub mod Duplicate
pub mod Laws
pub mod Pattern
pub mod PatternParts
pub mod Table
