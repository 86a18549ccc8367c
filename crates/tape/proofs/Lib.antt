pub mod Passes
pub mod Lasting
pub mod Related
