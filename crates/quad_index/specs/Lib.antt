pub mod SortOrder
pub mod Matching
pub mod Indexed
pub mod Laws
pub mod Packed
pub mod Lists
pub mod Counting
pub mod Parts
