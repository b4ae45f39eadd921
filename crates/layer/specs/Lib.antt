pub mod Admission
pub mod Step
pub mod Promises
