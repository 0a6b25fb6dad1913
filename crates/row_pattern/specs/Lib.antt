pub mod Numbered
pub mod Laws
pub mod Places
pub mod Steps
pub mod Search
