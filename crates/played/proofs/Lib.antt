pub mod Apart
pub mod Computed
pub mod Written
pub mod Stretches
pub mod Agrees
