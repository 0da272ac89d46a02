pub mod Taken
pub mod Digits
