pub mod Duck
pub mod Cursors
