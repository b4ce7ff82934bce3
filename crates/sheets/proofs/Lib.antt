pub mod Commands
pub mod Decoded
pub mod Encoded
pub mod Newest
pub mod OneOutcome
