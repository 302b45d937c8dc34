-- Laws that crates above cite.
pub mod SourceLaws
mod AtHand
mod Walks
mod FoundGives
pub mod PassLaws
mod WholeGives
pub mod Bind
pub mod Inverse
pub mod ReadingLaws
pub mod SpellingLaws
pub mod Sequences
pub mod Elements
pub mod Fields
pub mod OctetsTaken
pub mod FrameLaws
pub mod OrderTests
pub mod HeaderLaws
pub mod SpanLaws
pub mod Ends
pub mod Exits
pub mod Judged
pub mod Loops
pub mod AtOnce
pub mod OpaqueReads
pub mod Public
pub mod Rules
-- Lemmas of this crate alone.
mod DigitLaws
mod Numbers
mod FirstElements
mod Pieces
mod Steps
mod StreamLemmas
mod Lists
mod HeaderCuts
mod OctetReads
mod NumberReads
mod HeaderReads
mod ShortReads
mod OctetGives
mod PeekGives
mod HeaderGives
pub mod ContentsGives
mod FieldGives
mod CallClauses
mod PrimitiveClauses
pub mod Ties
mod OpaqueGives
pub mod Paths
mod OpaqueTies
mod Within
pub mod Why
