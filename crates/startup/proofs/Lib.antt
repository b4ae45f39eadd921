pub mod Fresh
pub mod StartInRange
