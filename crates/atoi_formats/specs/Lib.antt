pub mod Formats
pub mod Ascii
