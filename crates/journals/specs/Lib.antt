pub mod Lines
pub mod Journals
