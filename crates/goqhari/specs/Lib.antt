-- The four calls on a packed strip, and what a list of them is promised.
pub mod Library
pub mod Promise
pub mod SheetValue
