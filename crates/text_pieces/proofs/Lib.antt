pub mod FormLaws
pub mod HashLaws
pub mod NamingLaws
pub mod StatementSteps
pub mod AddingLaws
pub mod KnownLaws
pub mod RelevanceSteps
pub mod RenumberSteps
