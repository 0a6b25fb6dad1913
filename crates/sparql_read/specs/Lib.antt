pub mod Depth
pub mod RelativeIri
pub mod NameSet
pub mod BindScope
pub mod Rejection
pub mod ScopeSteps
pub mod LabelSteps
pub mod Checked
