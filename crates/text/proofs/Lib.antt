-- Laws of the stand's text.
pub mod Digits
pub mod DecimalReading
pub mod TextWriting
