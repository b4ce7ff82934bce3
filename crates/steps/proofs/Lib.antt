pub mod Sizes
pub mod Building
pub mod Calling
pub mod Framing
pub mod Answering
pub mod Transitions
