pub mod Calls
pub mod Pieces
pub mod Changes
pub mod Digests
pub mod Extents
pub mod Many
pub mod Outcomes
