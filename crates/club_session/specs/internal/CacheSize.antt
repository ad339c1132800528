-- The size of a connection's page cache. No promise of the program rests on these definitions.
use Rattle.std.specs.Prelude.{ℕ, ◌+◌, ◌/◌, max, min}

-- The pages of the file and a quarter more, as far as they fit into `most` bytes; at least `least` pages.
abbrev pub cache_pages : (most least file_bytes page_bytes : ℕ) → ℕ
cache_pages most least file_bytes page_bytes =
    max least (min (file_bytes / page_bytes + file_bytes / page_bytes / 4) (most / page_bytes))
