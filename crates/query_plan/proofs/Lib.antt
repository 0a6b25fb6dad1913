pub mod PatternSteps
pub mod ContextLaws
pub mod ModifierLaws
pub mod OffsetLaws
pub mod KeySteps
