pub mod DeliveriesInRange
pub mod DeliveredRows
pub mod Deliveries
pub mod Marks
pub mod Turns
