pub mod SetLaws
pub mod GroupLaws
pub mod PrologueSteps
pub mod ScopeSteps
pub mod LabelLaws
pub mod RejectionLaws
pub mod ResultLaws
