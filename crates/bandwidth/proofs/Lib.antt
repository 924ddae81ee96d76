pub mod CallLemmas
pub mod SumLemmas
pub mod PassLemmas
pub mod OpenLemmas
pub mod FitLemmas
pub mod FitLaws
pub mod RefusalLaws
mod ListLemmas
mod OrderLemmas
