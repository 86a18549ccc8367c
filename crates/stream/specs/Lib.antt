pub mod Stream
pub mod Cases
