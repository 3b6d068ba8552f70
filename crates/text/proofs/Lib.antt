-- Laws of the functions.
pub mod WriteLaws
pub mod LineLaws
pub mod TextLaws
