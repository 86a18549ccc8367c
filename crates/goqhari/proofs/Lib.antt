-- A strip that was read; a list of calls.
pub mod Lent
pub mod Joined
pub mod SheetValue
