mod Finds
pub mod FloatLemmas
mod GameLines
mod LastPicked
mod Lists
mod Numbered
mod OwnChallenges
mod Picked
pub mod Proved
mod RoundLemmas
mod RulingLemmas
pub mod ValueLemmas
