pub mod CallRules
pub mod TimingRules
pub mod AnswerRules
pub mod Rules
