pub mod Faults
pub mod Widths
pub mod Operands
