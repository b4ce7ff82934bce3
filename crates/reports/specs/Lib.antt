pub mod Files
pub mod Ranges
pub mod Replies
pub mod Verdicts
