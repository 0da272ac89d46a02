pub mod Points
pub mod Encodings
pub mod Tables
pub mod Rows
pub mod Spellings
pub mod Packing
pub mod Laws
pub mod Runs
