pub mod ExpressionTree
pub mod GroupTree
pub mod QueryTree
pub mod Scope
pub mod BlankReuse
