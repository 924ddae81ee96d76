pub mod SeatAnswers
pub mod Served
