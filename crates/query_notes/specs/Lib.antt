pub mod Speaking
pub mod Notes
pub mod Keys
