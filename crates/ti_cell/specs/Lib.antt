pub mod View
pub mod Word
pub mod Rule
pub mod Seats
pub mod Asking
