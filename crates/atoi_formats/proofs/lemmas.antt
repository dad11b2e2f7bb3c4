pub mod Ascii
pub mod Canonical
pub mod Json
pub mod Then
pub mod Leading
pub mod Outcomes
pub mod Written
