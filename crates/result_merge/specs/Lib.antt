pub mod Tags
pub mod Encoding
pub mod Escapes
pub mod Reading
pub mod Absent
pub mod Merging
pub mod Laws
