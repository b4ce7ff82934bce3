pub mod Ages
pub mod Capacity
pub mod Contents
pub mod Endless
pub mod Rooms
pub mod Changes
pub mod Sets
