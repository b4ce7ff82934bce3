pub mod Judgement
pub mod Scopes
pub mod Progress
pub mod Contents
pub mod Parts
pub mod Laws
