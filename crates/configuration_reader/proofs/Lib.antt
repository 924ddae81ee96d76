pub mod CheckLemmas
pub mod ConfigurationLemmas
