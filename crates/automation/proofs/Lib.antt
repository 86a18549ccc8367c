pub mod Points
pub mod Merged
pub mod Relates
pub mod Ties
pub mod Span
