pub mod Mixed
pub mod Staged
pub mod Rooms
pub mod Going
