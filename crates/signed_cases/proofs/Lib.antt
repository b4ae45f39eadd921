pub mod SignedCases
pub mod SignedPins
pub mod SignedJourneys
