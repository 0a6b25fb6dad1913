pub mod Keys
pub mod Planned
pub mod Refused
