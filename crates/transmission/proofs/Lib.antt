pub mod RequestsInRange
