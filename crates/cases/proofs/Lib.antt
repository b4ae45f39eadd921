pub mod Definitions
pub mod Computed
pub mod Cases
pub mod FilterRules
pub mod CheckRules
