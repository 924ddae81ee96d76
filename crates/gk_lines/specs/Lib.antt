pub mod LineBuffer
pub mod LineReader
pub mod Streams
