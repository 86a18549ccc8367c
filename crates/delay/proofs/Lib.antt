-- The laws of a delay line.
pub mod Part
pub mod Whole
pub mod Line
pub mod Rest
mod Mask
