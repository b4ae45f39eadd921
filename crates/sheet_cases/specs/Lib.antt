pub mod SheetCases
