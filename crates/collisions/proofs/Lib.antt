-- Lost exchanges are paid for by won ones.
pub mod Recorded
pub mod Statuses
pub mod Winners
pub mod Balance
pub mod Notes
pub mod Turned
pub mod Opened
