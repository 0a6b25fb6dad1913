pub mod Writing
pub mod Report
