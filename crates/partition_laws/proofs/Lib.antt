pub mod PartitionLaws
pub mod ChosenLaws
