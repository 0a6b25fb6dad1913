pub mod Merged
pub mod Laws
