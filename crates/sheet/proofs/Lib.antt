-- Laws of the sheet's numbers.
pub mod FourWays
pub mod FourNumbers
pub mod RowsFilled
pub mod SheetFilled
