-- Laws of states as numbers, that each stands for one state.
pub mod Back
pub mod OneAnswer
