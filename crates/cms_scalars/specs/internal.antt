-- Definitions of this crate alone: no public contract cites them.
pub mod Segments
