pub mod SignedCases
pub mod SignedJourneys
