pub mod CountLemmas
pub mod EndLemmas
pub mod KingLemmas
pub mod Proved
pub mod SizeLemmas
pub mod TailLemmas
