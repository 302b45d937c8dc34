pub mod Share
pub mod Chosen
pub mod Samples
