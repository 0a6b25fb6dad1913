pub mod MalformedLaws
pub mod CountLaws
pub mod TallyLaws
pub mod ReasonLaws
pub mod ListSteps
pub mod AddingSteps
pub mod WellFormedSteps
mod FirstBytes
