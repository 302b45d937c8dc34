-- Definitions of this crate alone: no public contract cites them.
pub mod Merging
pub mod Sorting
pub mod Pouring
pub mod Tracing
