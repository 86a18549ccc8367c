-- A list laid so far, and a list laid behind another.
mod Laid
pub mod Joined
