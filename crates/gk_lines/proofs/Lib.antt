pub mod DigitLemmas
pub mod KeptLines
pub mod LineBufferLemmas
pub mod LinesRead
pub mod LinesTaken
pub mod PendingLemmas
pub mod StreamLemmas
