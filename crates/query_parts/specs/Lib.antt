pub mod Laws
pub mod Results
