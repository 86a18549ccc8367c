-- The laws of the plate's step, and the theorem: the part's step is the machine's.
pub mod Turns
pub mod InputHeld
pub mod HalfHeld
pub mod Theorem
pub mod Fresh
