pub mod AnswerLemmas
pub mod JoinLemmas
pub mod PrintedLemmas
pub mod Proved
pub mod ReadingLemmas
pub mod ReceivedLemmas
pub mod SaidLemmas
