pub mod Keyed
pub mod Packed
pub mod Pairs
pub mod Results
pub mod Ranks
pub mod RankedRows
pub mod Texts
