pub mod OperatorSplits
pub mod PatternSplits
pub mod KeyedLaws
pub mod SplitLaws
pub mod OverlapLaws
