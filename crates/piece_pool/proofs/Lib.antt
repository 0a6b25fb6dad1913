pub mod WorkerSteps
pub mod SlotSteps
pub mod CollectorSteps
