mod KeyTableLaws
mod GroupLaws
mod InsertLaws
mod PlaceLaws
mod SlotLaws
mod PairLaws
pub mod NumberLaws
mod TurnLaws
mod KnownLaws
mod ShareLaws
mod DistinctLaws
