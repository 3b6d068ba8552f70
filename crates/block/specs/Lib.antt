-- What this crate's words mean, in the model's terms.
pub mod Halves
