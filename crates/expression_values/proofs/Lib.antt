pub mod FoldSteps
pub mod LogicSteps
pub mod MemorySteps
pub mod OperandSteps
pub mod ValueSteps
