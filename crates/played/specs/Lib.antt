-- Lists of calls and of samples, with what the Rust gave for them.
pub mod Played
pub mod Lists
