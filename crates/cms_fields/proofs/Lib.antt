-- Laws that crates above cite.
pub mod CanonicalLaws
pub mod WriteLaws
pub mod AssemblyLaws
pub mod EmitLaws
pub mod DerLaws
pub mod ReaderLaws
pub mod FirstOctetLaws
pub mod ChoiceLaws
pub mod ContentsChoiceLaws
pub mod SelectedLaws
pub mod AmongLaws
pub mod AlreadyDerLaws
pub mod ContentsClauses
pub mod ReceivedLaws
pub mod AfterHeader
pub mod SpannedLaws
pub mod IndexedLaws
mod DerReads
pub mod WhyFields
pub mod GrammarLaws
