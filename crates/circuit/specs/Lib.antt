-- What the answers of this crate's inner functions say, in the model's terms.
pub mod Accepted
pub mod Answers
pub mod Outputs
