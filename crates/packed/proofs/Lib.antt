pub mod Numbers
pub mod FieldLaws
pub mod Looking
pub mod Decoding
pub mod Encoding
pub mod RoundTrips
pub mod Findings
pub mod Vectors
