pub mod OverlapCases
