pub mod NeededLaws
pub mod FaultSteps
