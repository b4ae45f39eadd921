pub mod PeriodsInRange
pub mod TicksInRange
pub mod PeriodTurn
