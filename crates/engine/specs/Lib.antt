pub mod Tallies
pub mod Ended
pub mod Held
pub mod Loading
pub mod Stands
pub mod Shown
pub mod Moves
pub mod Making
