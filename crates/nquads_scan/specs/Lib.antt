pub mod Ends
pub mod Layout
pub mod Canonical
pub mod Plain
pub mod Rewriting
pub mod PlainLines
