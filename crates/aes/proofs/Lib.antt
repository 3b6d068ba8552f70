-- Laws that the proofs of the functions cite.
mod Joined
pub mod WordLaws
mod Rounds
pub mod Packing
mod Tables
pub mod Columns
pub mod NextKeys
mod Spreads
mod FoldedLaws
