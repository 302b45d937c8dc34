pub mod RowLaws
pub mod CoverLaws
