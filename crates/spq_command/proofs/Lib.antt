pub mod NumberSteps
pub mod CommandSteps
pub mod TakenRows
pub mod TakenSteps
