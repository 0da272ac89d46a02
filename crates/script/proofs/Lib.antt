pub mod Spendable
pub mod Rows
pub mod Runs
