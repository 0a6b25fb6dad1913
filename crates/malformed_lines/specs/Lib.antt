pub mod Malformed
pub mod Counts
