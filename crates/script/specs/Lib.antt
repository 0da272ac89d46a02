pub mod Orders
pub mod Hands
pub mod Sessions
pub mod Shown
pub mod Plays
pub mod Reports
pub mod Tallies
pub mod Behind
