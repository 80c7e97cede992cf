-- The stand's table is the plain pool's.
pub mod LentArea
pub mod Fed
pub mod Beside
pub mod BesideStart
pub mod Table
pub mod Whole
pub mod AfterAll
pub mod StandReports
