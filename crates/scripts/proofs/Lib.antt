mod EntriesLemmas
