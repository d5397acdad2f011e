mod PieceLemmas
mod PartLemmas
mod ToCome
mod Readers
pub mod FedLines
