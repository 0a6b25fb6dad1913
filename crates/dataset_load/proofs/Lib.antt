pub mod LineLaws
mod ReadingSteps
mod LoadingSteps
mod SortingSteps
mod ReaderSteps
mod StreamingSteps
mod CountingSteps
pub mod TermSteps
mod BuildingSteps
pub mod ListingSteps
mod RestSteps
mod LimitSteps
mod PartCountSteps
