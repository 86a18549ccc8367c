-- The laws of the plate's lines.
pub mod Lines
