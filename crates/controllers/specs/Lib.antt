pub mod Told
pub mod Orders
pub mod Counts
pub mod Shown
pub mod Judged
pub mod Written
pub mod Played
