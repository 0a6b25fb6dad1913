pub mod Limits
pub mod Job
pub mod Worked
pub mod Outcome
pub mod Collected
