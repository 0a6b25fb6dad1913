pub mod Excerpt
pub mod Message
