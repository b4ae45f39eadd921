pub mod SheetCases
pub mod SheetPins
