-- Definitions of this crate alone: no public contract cites them.
pub mod Digits
pub mod Found
pub mod Whole
