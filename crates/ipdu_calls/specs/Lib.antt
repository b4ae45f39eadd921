pub mod RowTicks
