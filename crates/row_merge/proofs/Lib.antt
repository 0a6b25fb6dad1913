pub mod ZipLaws
pub mod NestLaws
pub mod OnceLaws
