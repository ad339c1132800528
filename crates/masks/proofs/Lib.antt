mod BitLemmas
mod EndLemmas
mod SetLemmas
mod ShiftLemmas
