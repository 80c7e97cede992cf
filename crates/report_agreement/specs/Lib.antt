-- What the reports tell of the plain pool.
pub mod Sums
pub mod Whereabouts
pub mod SheetTells
pub mod FormTells
pub mod KeepersTell
