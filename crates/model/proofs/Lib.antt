-- Laws of the definitions.
pub mod Lists
pub mod Table
pub mod Buffers
pub mod Equal
pub mod Number
pub mod Decimal
pub mod Xor
pub mod Field
pub mod Bits
pub mod Mix
mod AesBytes
mod Permutation
pub mod Expansion
pub mod Circuits
pub mod Verdicts
pub mod Conditions
pub mod Examples
pub mod Program
pub mod XorRules
pub mod Tokens
pub mod Calls
pub mod Needed
pub mod Codes
pub mod Blocks
pub mod Sound
pub mod Gax
pub mod Gaxr
pub mod HalfGates
pub mod Schemes
pub mod FreeGates
pub mod Gates
pub mod Outputs
pub mod Accepted
pub mod Holds
pub mod Endings
pub mod Lengths
pub mod Stored
pub mod Filling
pub mod OneMore
pub mod Places
pub mod Chain
pub mod OwnMaterial
pub mod Records
pub mod Made
pub mod Demand3
mod OldMark
pub mod OldEnding
pub mod Kept
mod StandsFor
pub mod Runs
