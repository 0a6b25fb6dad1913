pub mod ComparisonOf
pub mod NumberShown
pub mod ValueShown
pub mod Digits
pub mod EqualityKey
