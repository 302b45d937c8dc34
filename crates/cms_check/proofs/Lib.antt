-- Lemmas of this crate, and laws that crates above cite.
mod OfType
mod Found
mod Reports
mod Joined
mod Digested
pub mod DigestLaws
