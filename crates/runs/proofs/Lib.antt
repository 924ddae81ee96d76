pub mod RecordedLemmas
pub mod RunLemmas
