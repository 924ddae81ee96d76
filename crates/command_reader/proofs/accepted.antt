pub mod LocalZones
pub mod WellFormedLemmas
