-- What stands from a place on, and the room of a strip that was read back; what was packed is read back.
pub mod Read
mod Floats
pub mod Inverse
