-- A strip as numbers and words, and that what was packed is read back.
pub mod Packing
pub mod Inverse
