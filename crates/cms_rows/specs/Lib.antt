pub mod Rows
pub mod Covers
pub mod Fields
