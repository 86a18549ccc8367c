-- The lane's oscillators.
pub mod Oscillators
