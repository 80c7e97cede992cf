-- The form by holder.
pub mod Form
pub mod FormFilling
