pub mod ItemLemmas
pub mod PieceLemmas
pub mod PlaceLemmas
pub mod RoomLemmas
