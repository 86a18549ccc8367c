-- Laws of bit patterns, of rounding, of the floor and of powers of two.
pub mod Pattern
pub mod Split
pub mod Exact
pub mod Widening
pub mod Field
mod Rounded
mod Closest
pub mod Error
mod Narrowing
mod Inplace
mod Cases
mod Powers
pub mod Floors
