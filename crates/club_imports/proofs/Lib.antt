mod SameMoves
mod ImportStepLemmas
mod StandingLemmas
mod LeftLemmas
mod RowLemmas
