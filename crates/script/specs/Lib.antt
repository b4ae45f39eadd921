pub mod Characters
pub mod Text
pub mod Reading
pub mod Typed
pub mod Reader
