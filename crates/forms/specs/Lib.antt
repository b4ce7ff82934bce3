pub mod Commands
pub mod Marks
pub mod Pendings
pub mod Reading
pub mod Lengths
pub mod Shapes
pub mod Heads
