-- What the demands speak of: the tests in their order, answers, and runs of the calls.
pub mod Tests
pub mod AnswerKinds
pub mod Acts
pub mod LostTold
