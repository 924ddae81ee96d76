pub mod Block
pub mod Found
pub mod Looks
pub mod Memory
pub mod Nodes
pub mod Trie
pub mod Walk
