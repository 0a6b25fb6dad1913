pub mod Cuts
pub mod Blocks
pub mod Laws
