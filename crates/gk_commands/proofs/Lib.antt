pub mod AcceptedLemmas
pub mod LinesLemmas
pub mod WholeLinesLemmas
