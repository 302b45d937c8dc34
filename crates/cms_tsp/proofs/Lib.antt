-- Lemmas of this crate alone.
mod TstInfos
-- Laws that crates above cite.
pub mod MalformedLaws
