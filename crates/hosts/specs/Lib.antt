pub mod Answers
pub mod LocalSites
pub mod Meanings
pub mod Laws
