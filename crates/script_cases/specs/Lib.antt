pub mod ScriptCases
