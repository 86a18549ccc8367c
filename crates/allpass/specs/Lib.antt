-- The plate's lines: definitions that the contracts cite.
pub mod Allpass
