-- Laws that the proofs of the functions cite.
pub mod BitLaws
mod PieceLaws
mod GateLaws
mod RowLaws
