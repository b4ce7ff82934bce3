pub mod Places
pub mod Passing
pub mod Scans
pub mod Tickets
pub mod Frames
pub mod Parts
pub mod Splices
