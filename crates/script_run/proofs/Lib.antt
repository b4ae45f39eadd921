pub mod Joined
pub mod LongFrames
pub mod Prints
pub mod Runs
pub mod Begun
