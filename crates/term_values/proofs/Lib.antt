pub mod NumberLaws
pub mod NumberSteps
pub mod SignLaws
pub mod EqualityLaws
pub mod ResidueLaws
pub mod FormLaws
