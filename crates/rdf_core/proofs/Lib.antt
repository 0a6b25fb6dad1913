pub mod TermLaws
pub mod HexSteps
pub mod EscapeSteps
pub mod EnclosedSteps
pub mod EscapeLaws
pub mod EnclosedLaws
pub mod PlainSteps
pub mod AppendSteps
