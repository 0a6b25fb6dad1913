pub mod StepLaws
pub mod ScanLaws
pub mod SearchLaws
pub mod ReadingLaws
