pub mod Seen
pub mod Objects
pub mod Groups
pub mod Queries
