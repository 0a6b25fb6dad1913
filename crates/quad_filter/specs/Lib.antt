pub mod Filter
pub mod Kept
pub mod Slices
pub mod Laws
