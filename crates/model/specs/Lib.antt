-- What is meant: document 01, a file for each of its sections, in its order, with the jobs of document 02 that are done; Kept says what those leave
-- as it was, and Runs what garblings from one seed have in common. Definitions only: laws are in proofs/.
pub mod Bytes
pub mod Decimal
pub mod Circuit
pub mod Aes
pub mod Tokens
pub mod Scheme
pub mod Gax
pub mod Gaxr
pub mod Hashes
pub mod HalfGates
pub mod Garbling
pub mod Ending
pub mod Material
pub mod Evaluation
pub mod Calls
pub mod Refusals
pub mod Operations
pub mod Program
pub mod Demand3
pub mod Examples
pub mod Kept
pub mod Runs
