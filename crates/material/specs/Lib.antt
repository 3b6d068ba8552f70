-- What this crate's functions ask, and what its inner ones answer, in the model's terms.
pub mod Answers
pub mod Reader
