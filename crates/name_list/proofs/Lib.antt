pub mod Seens
pub mod Loops
