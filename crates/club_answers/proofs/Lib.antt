mod AllChallenges
mod AnalysisLemmas
mod BoardLemmas
mod CallLemmas
mod ChallengeOrder
pub mod CrossTableLemmas
mod FoundLemmas
mod GameRulings
mod MemberChallenges
mod OneOrder
mod OverdueLemmas
pub mod Proved
mod RecordLemmas
mod RunningLemmas
pub mod StandingsLemmas
mod ToldRows
pub mod ViewedLemmas
