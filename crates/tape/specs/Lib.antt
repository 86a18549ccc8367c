-- The tape lane: its step on histories (Tape), and as it is kept (Kept).
pub mod Tape
pub mod Kept
