pub mod Words
pub mod DotProducts
