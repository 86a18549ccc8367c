-- Delay lines: the definitions that the contracts cite.
pub mod Delay
pub mod Cases
