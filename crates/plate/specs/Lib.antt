-- The plate: the machine on histories, and its step on its part of the sample store.
pub mod Machine
pub mod Plate
