pub mod ExpressionOf
pub mod HeldTerm
pub mod MemberTruth
pub mod NoAllocation
