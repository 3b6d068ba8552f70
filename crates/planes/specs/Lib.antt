-- What this crate's planes mean, in the model's terms.
pub mod Circuit
pub mod Lanes
pub mod Rotations
pub mod Mixing
pub mod Alternation
pub mod Exchange
pub mod Packing
pub mod Sliced
pub mod Rounds
pub mod Four
