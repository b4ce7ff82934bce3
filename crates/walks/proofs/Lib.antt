pub mod Sizes
pub mod Changing
pub mod Windows
pub mod Closing
pub mod Settled
pub mod Unlapsed
pub mod Frees
