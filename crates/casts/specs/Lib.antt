-- Definitions that contracts cite (Arithmetic, Cast, min_f of Least, step_of of Step), and laws of the order of floats that other crates cite.
pub mod Arithmetic
pub mod Cast
pub mod Order
pub mod Same
pub mod Least
pub mod Step
