pub mod Built
pub mod Sections
pub mod Instances
pub mod Framings
pub mod Made
pub mod Replied
pub mod Outcomes
pub mod Laws
