-- Laws of the functions.
pub mod PickLaws
pub mod WantedLaws
