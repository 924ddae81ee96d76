pub mod Duplicates
pub mod Parsing
pub mod RankLaws
pub mod Ranks
pub mod ReadBack
