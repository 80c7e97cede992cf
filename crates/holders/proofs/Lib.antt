-- Laws of the form's numbers.
pub mod Bounds
pub mod AddingUp
pub mod TaskNumbers
pub mod FormColumns
pub mod FormFilled
pub mod Exchange
pub mod SheetColumns
pub mod NumberBounds
