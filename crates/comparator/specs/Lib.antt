-- Document 02, job 1: what a comparator is (Compares), the one that is written (Comparator), examples of both, and what the parts ask (Parts).
pub mod Compares
pub mod Comparator
pub mod Examples
pub mod Parts
