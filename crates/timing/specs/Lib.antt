pub mod Periods
pub mod Ticks
pub mod Inner
