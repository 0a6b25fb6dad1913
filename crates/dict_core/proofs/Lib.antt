pub mod NumQuadLaws
pub mod DictLaws
pub mod InsertLaws
pub mod AppearanceLaws
pub mod HashedLaws
pub mod PlaceLaws
pub mod NumberingLaws
pub mod MergingSteps
