-- Whole effects of the calls.
pub mod Pieces
