pub mod MemoryLemmas
pub mod OutputLemmas
pub mod Rows
