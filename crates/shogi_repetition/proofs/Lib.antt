pub mod EndLemmas
pub mod MarkLemmas
pub mod PlaceLemmas
pub mod Proved
pub mod TailLemmas
