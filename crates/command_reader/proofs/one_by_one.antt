pub mod HeldLemmas
pub mod IndexLemmas
pub mod KeptLemmas
pub mod NameLemmas
pub mod NumberLemmas
pub mod OptionLemmas
pub mod ReadOnLemmas
