-- What the contracts of the functions cite.
pub mod Written
