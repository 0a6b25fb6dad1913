pub mod Restriction
pub mod Needed
pub mod Laws
pub mod Building
