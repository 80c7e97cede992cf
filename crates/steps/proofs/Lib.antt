-- Laws of the step list by place.
pub mod StepAt
