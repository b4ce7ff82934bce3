pub mod Faults
pub mod Words
pub mod Operands
pub mod Parsing
pub mod Lines
pub mod Scripts
