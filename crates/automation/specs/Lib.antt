pub mod Automation
pub mod Promise
pub mod Kept
pub mod Pieces
pub mod Cases
