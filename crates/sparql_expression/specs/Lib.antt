pub mod ParseResult
pub mod Front
