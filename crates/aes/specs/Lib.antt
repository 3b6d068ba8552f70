-- What this crate's packed words and tables mean, in the model's terms.
pub mod Tables
pub mod Round
pub mod Folded
