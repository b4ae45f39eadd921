pub mod Delivery
pub mod Due
