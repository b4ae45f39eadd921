pub mod Case
pub mod Lines
pub mod Cases
pub mod FilterRules
pub mod CheckRules
