mod ToldLemmas
mod OpenLemmas
mod RowLemmas
mod KeptLemmas
mod HeldLemmas
pub mod MoveLemmas
pub mod SaidLemmas
