pub mod Field
pub mod State
pub mod Permutation
pub mod Words
pub mod Steps
pub mod WorkedRound
pub mod AppendixB
