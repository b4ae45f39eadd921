pub mod Book
pub mod Actions
pub mod Drains
pub mod Demand3
pub mod Refusals
pub mod RoundTrip
pub mod Filterings
