pub mod RowSteps
pub mod CellSteps
mod RestrictSteps
mod MergeSteps
pub mod TurnLaws
