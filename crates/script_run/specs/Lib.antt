pub mod Script
pub mod ScriptCalls
pub mod Parts
