-- A run's whole effect, and what it asks of a strip.
pub mod Run
