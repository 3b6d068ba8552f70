-- Laws of the functions.
pub mod LengthLaws
pub mod SizeLaws
pub mod RowLaws
pub mod ReaderLaws
pub mod RecordLaws
pub mod LastLaws
pub mod MaterialLaws
pub mod WellFormed
pub mod ReadsOn
pub mod WriterLaws
pub mod AsSaid
pub mod EndingLaws
