-- Laws of the layout and of the answers.
pub mod Fields
pub mod AnswerNumber
pub mod OneMoreLost
