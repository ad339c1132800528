pub mod Numbers
pub mod HeadLines
pub mod HeadReading
pub mod FramingLemmas
pub mod RequestLemmas
pub mod IntakeLemmas
pub mod Proved
pub mod StreamLemmas
