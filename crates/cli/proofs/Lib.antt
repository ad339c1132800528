mod AppLemmas
mod SaidLemmas
