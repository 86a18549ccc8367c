pub mod Loops
pub mod Related
