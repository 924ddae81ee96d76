pub mod FieldLemmas
pub mod ListLemmas
pub mod ReadLemmas
pub mod RouteLemmas
pub mod WriterLemmas
pub mod read_back
