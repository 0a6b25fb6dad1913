pub mod FrontSteps
pub mod ElementSteps
pub mod TripleSteps
pub mod NameLaws
pub mod ValueSteps
pub mod GroupSteps
pub mod QuerySteps
