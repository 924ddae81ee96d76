pub mod CanonicalLemmas
pub mod PrintingLemmas
pub mod accepted
pub mod one_by_one
pub mod read_back
