-- What this crate's functions ask and leave, in the model's terms.
pub mod Walk
pub mod Last
pub mod Outputs
pub mod Answers
pub mod GateList
