-- The ceiling: on its past, as it is kept in the stores, what refusal 4 asks of it, and its sheet value.
pub mod Ceiling
pub mod Kept
pub mod WellFormed
pub mod SheetValue
