pub mod CountCases
