pub mod Elements
pub mod Checked
pub mod Loops
pub mod Going
pub mod Opened
pub mod Holders
pub mod Barred
