-- The refusals, the one-sample machine, the strip as it is kept, the four calls, and the promise about every list of them.
pub mod Refusals
pub mod Machine
pub mod Kept
pub mod Calls
pub mod Promise
pub mod SheetValue
pub mod Cases
pub mod Edges
