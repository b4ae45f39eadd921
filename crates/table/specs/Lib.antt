pub mod Records
pub mod Rules
pub mod Check
pub mod Inner
