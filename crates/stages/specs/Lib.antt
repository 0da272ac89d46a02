pub mod Readings
pub mod Turning
