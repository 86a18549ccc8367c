pub mod Ramp
pub mod Cases
