pub mod AlgebraOf
pub mod Projected
pub mod Names
pub mod Translation
pub mod PartOf
pub mod Added
pub mod BasicPatterns
