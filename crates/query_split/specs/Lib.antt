pub mod Condition
pub mod Parts
pub mod ForParts
pub mod Laws
