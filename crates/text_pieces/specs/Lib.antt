pub mod Forms
pub mod Slices
pub mod Relevance
pub mod Hashes
pub mod Pieces
