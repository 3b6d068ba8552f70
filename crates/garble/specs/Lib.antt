-- What the answers of this crate's inner functions say, in the model's terms.
pub mod Answers
pub mod Pick
pub mod Blocks
pub mod Held
pub mod Written
pub mod Walk
pub mod Whole
pub mod Clash
