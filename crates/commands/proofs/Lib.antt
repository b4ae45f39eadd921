pub mod Examined
pub mod Performed
pub mod GivenLines
