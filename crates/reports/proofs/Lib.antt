-- Laws of what the reports share.
pub mod Passing
pub mod FirstPassing
pub mod ByRegion
pub mod TasksCounted
pub mod Rows
pub mod ReportAnswers
pub mod ReportFilled
