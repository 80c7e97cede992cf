-- Definitions of the stand's reports.
pub mod Reported
pub mod Written
