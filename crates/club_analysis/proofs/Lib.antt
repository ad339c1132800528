pub mod TriedLemmas
