pub mod RowLaws
pub mod Turns
pub mod Ready
pub mod Running
