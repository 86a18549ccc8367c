pub mod Stage
pub mod System
