-- Laws of the functions.
pub mod PickLaws
pub mod HeldLaws
pub mod InputLaws
pub mod EncodeLaws
pub mod EncodeIsLaws
pub mod RecordLaws
pub mod ChargedLaws
pub mod OperandLaws
pub mod StepLaws
pub mod WalkLaws
pub mod LastLaws
pub mod BodyLaws
pub mod WholeLaws
pub mod GarbleIsLaws
pub mod ClashLaws
