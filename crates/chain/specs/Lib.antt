-- Demand 3 of the bytes in the buffers (Chain), and the same of a comparison (Comparison).
pub mod Chain
pub mod Comparison
