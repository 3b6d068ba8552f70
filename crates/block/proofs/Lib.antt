-- Laws that the proofs of the functions cite.
pub mod Fill
pub mod Words
pub mod DifferLaws
