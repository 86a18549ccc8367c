pub mod Lanes
mod Alike
mod Groups
mod Waves
pub mod Row
