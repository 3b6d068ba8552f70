-- Laws of the functions.
pub mod PartLaws
pub mod HandLaws
pub mod RightLaws
pub mod StoppedLaws
pub mod ChainLaws
pub mod ComparisonLaws
