pub mod RowReads
pub mod ObjectRanges
pub mod ObjectWords
