pub mod QueryPrefix
pub mod Accepted
pub mod Position
pub mod TerminalPlace
pub mod Place
pub mod Report
pub mod Symbols
