pub mod Places
pub mod Shifts
