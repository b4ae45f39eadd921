pub mod ComputedScripts
pub mod ScriptCases
