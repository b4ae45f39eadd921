pub mod ObjectSteps
pub mod ObjectsInRange
pub mod Apart
pub mod Queues
