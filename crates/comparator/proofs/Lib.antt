-- Laws of the comparator: two figures as values (FigureLaws), its bytes as they are written (WriteLaws), one bit more (BitLaws), what it compares
-- (CompareLaws), and the operation (ComparatorLaws).
pub mod FigureLaws
pub mod WriteLaws
pub mod BitLaws
pub mod CompareLaws
pub mod ComparatorLaws
mod Examples
