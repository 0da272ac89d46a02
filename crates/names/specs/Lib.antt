pub mod Utf8
pub mod Decomposition
pub mod Letters
pub mod Reading
pub mod Digits
pub mod Law
pub mod Progress
pub mod KeyLaws
