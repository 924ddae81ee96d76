pub mod Drafts
pub mod History
pub mod Items
pub mod Past
pub mod Reloads
pub mod Rows
