pub mod PartLaws
pub mod LineLaws
pub mod PartRuns
