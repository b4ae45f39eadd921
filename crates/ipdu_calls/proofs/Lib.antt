pub mod RowTicks
pub mod MarkedOnce
pub mod Idle
