pub mod Answering
pub mod AnswerLaws
pub mod CoreInvariant
pub mod HistoryLaws
pub mod PastCore
pub mod RouteLaws
pub mod RowLaws
pub mod Stepping
