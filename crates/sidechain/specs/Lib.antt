pub mod Sidechain
pub mod Cases
