-- Laws that the proofs of the functions cite.
mod Lanes
mod Gates
mod Shifts
mod Turns
mod Mixes
mod Swaps
mod Halves
mod Blocks
mod Rounds
mod TurnedKeys
mod Keys
mod SubWords
