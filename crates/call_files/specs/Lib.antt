pub mod Calls
pub mod ReadBack
pub mod RecordReader
pub mod RouteTexts
pub mod RowWriter
pub mod Rows
