pub mod AddingLemmas
pub mod FieldLaws
pub mod KnownLemmas
