pub mod Commands
pub mod Format
pub mod Laws
pub mod Rows
