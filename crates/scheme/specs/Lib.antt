-- What this crate's structs mean, in the model's terms.
pub mod Garbled
pub mod Rows
