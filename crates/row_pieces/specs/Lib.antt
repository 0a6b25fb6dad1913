pub mod How
pub mod Fault
pub mod Pieces
