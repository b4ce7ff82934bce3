pub mod Splitting
pub mod Counting
pub mod Sayings
pub mod Readings
pub mod Scripted
