-- Laws of the stand's reports.
pub mod Reading
pub mod Beginning
