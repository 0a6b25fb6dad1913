pub mod CountLaws
pub mod LengthLaws
pub mod StepLaws
pub mod RunLaws
pub mod SeatLaws
pub mod TableSteps
pub mod PassLaws
pub mod ClosingLaws
