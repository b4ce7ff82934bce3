pub mod Acts
pub mod Events
