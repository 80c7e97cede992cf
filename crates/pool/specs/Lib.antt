-- What the exported calls ensure.
pub mod Call
pub mod ReportCall
