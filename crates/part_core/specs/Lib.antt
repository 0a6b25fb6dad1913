pub mod Words
pub mod Needed
pub mod Output
pub mod Refused
pub mod Faults
pub mod Run
pub mod Report
pub mod Laws
