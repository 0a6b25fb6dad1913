pub mod AnsweringSteps
pub mod BlockSteps
pub mod FaultSteps
pub mod LoadingSteps
pub mod ComposingSteps
pub mod DocumentSteps
pub mod ListingSteps
pub mod OutcomeLaws
