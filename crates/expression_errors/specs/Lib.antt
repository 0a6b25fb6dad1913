pub mod Causes
pub mod Classes
pub mod Counts
