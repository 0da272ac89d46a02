pub mod Lists
pub mod Seen
