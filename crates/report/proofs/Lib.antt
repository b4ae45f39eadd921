pub mod Puts
pub mod HexTexts
pub mod RequestTexts
pub mod StatusLines
