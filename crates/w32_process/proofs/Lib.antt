pub mod KeptLemmas
pub mod SeatLemmas
