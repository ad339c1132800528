-- What bytes amount to: the parts of a reading put together, one answer alone, and none that more bytes change.
use Rattle.std.proofs.Common.{◌≡◌, ℕ, ◌-◌, ◌<◌, ◌≤◌, Bool, true, false, List, [], ◌∷◌, ◌++◌, length, take}
use Rattle.std.proofs.Common.{nat_lt, Some, None, Option, Result, Ok, Err, sym, ◌∙◌, ap, refl, arith, append-nil}
use Rattle.std.proofs.Common.{drop, min, zero, suc, take_all, length-append, length-drop}
use Rattle.std.proofs.lemmas.List.{take_min, length-take, take-take, take-append-le, drop-append-le, length-take-le}
use Rattle.httparse.specs.Grammar.{RequestHead}
use Rattle.httparse.proofs.GrammarLemmas.{request_unique}
use Rattle.http_head.specs.declared.refusals.HeadRefusal.{HeadRefusal}
use Rattle.http_head.specs.declared.framing.Scan.{Scan}
use Rattle.http_head.specs.Framing.{end_from, scan_start, head_end, head_limit, past_limit}
use Rattle.http_head.specs.Head.{ParsedHead, outline_of, IsReadAs, IsReadIf, IsHead, line_limit, NamedHost}
use Rattle.http_head.specs.Request.{ParseState, unfinished, body_seen, seen_after, IsHeadRead, Sees}
use Rattle.http_head.specs.Request.{begin_with_head, asks_head, asks_head_by, NamesHost}
use Rattle.http_head.proofs.FramingLemmas.{end_append, ends}
use Rattle.http_head.proofs.HeadReading.{Gives, Names}

same_front : (n : ℕ) (bytes : List ℕ) (limit : ℕ) → limit ≡ min (length bytes) n → take limit bytes ≡ take n bytes
same_front n bytes limit e = let other : limit ≡ min n (length bytes) = omega arith in rw other (take_min n bytes)

-- the head's end, as a search over the first bytes finds it
pub end_is : (bytes : List ℕ) (limit : ℕ) (found : Option (ℕ × ℕ)) → limit ≡ min (length bytes) 16384
    → end_from scan_start (take limit bytes ++ []) ≡ found → head_end bytes ≡ found
unfolding head_end
end_is bytes limit found e h = rw (same_front head_limit bytes limit e, append-nil (take head_limit bytes)) at h

-- the bytes of a head alone
pub head_alone : (bytes : List ℕ) (end : ℕ × ℕ) → head_end bytes ≡ Some end → (end.0 ≤ length bytes)
    × (end_from scan_start (take end.0 bytes) ≡ Some end)
unfolding head_end
head_alone bytes end h =
    let e = ends scan_start (take head_limit bytes) end h in
    let short : end.0 ≤ head_limit = omega (arith, e.within, length-take head_limit bytes) in
    let z : end.0 - 0 ≡ end.0 = omega arith in
    (omega (arith, e.within, length-take head_limit bytes), rw (z, take-take end.0 head_limit bytes short) at e.alone)

pub no_end : (bytes : List ℕ) → head_end bytes ≡ None → (seen : ParseState) → seen ≡ seen_after bytes None None
    → Sees bytes seen
no_end bytes none seen e = record { read = None; is_read = rw none refl; is_seen = rw none e }

pub with_end : (bytes : List ℕ) (end : ℕ × ℕ) (read : Option RequestHead) (seen : ParseState) → head_end bytes ≡ Some end
    → IsReadAs end.1 (take end.0 bytes) read → seen ≡ body_seen (drop end.0 bytes) (outline_of end.1 read)
    → Sees bytes seen
with_end bytes end read seen found reads e = record { read = read; is_read = rw found reads; is_seen = rw found e }

-- ---- more bytes

take_append : (n : ℕ) (xs ys : List ℕ) → (k : ℕ) × (take n (xs ++ ys) ≡ take n xs ++ take k ys)
take_append zero xs ys = (0, refl)
take_append (suc n) [] ys = (suc n, refl)
take_append (suc n) (x ∷ xs) ys = let more = take_append n xs ys in (more.0, ap (λ (l : List ℕ). x ∷ l) more.1)

-- a search that found an end finds it whatever follows
pub end_more : (bytes more : List ℕ) (end : ℕ × ℕ) → head_end bytes ≡ Some end → head_end (bytes ++ more) ≡ Some end
unfolding head_end
end_more bytes more end h =
    let parts = take_append head_limit bytes more in
    rw parts.1 (end_append scan_start (take head_limit bytes) (take parts.0 more) end h)

-- beyond the limit nothing more is looked at
pub end_same : (bytes more : List ℕ) → 16384 < length bytes → head_end (bytes ++ more) ≡ head_end bytes
unfolding head_end
end_same bytes more long = rw (take-append-le head_limit bytes more (omega arith)) refl

-- a body that is whole stays so
body_more : (behind more : List ℕ) (given : Result ParsedHead HeadRefusal) → (body_seen behind given ≡ unfinished → ⊥)
    → body_seen (behind ++ more) given ≡ body_seen behind given
body_more behind more (Err refusal) h = refl
body_more behind more (Ok o) h = by (nat_lt (length behind) o.length) refl
  where
    by : (b : Bool) → nat_lt (length behind) o.length ≡ b → body_seen (behind ++ more) (Ok o) ≡ body_seen behind (Ok o)
    by true e = absurd (h (rw e refl))
    by false e =
        let fits : o.length ≤ length behind = grind arith in
        let later : nat_lt (length (behind ++ more)) o.length ≡ false = grind (arith, length-append {A = ℕ}) in
        rw (e, later, take-append-le o.length behind more fits) refl

over_limit : (bytes : List ℕ) (seen : ParseState) → seen ≡ seen_after bytes None None → (seen ≡ unfinished → ⊥)
    → 16384 < length bytes
over_limit bytes seen e decided = grind arith

late_same : (bytes more : List ℕ) → 16384 < length bytes
    → seen_after bytes None None ≡ seen_after (bytes ++ more) None None
late_same bytes more long = grind (arith, length-append {A = ℕ})

-- what does not wait for more is not changed by it
pub sees_more : (bytes more : List ℕ) (seen : ParseState) → Sees bytes seen → (seen ≡ unfinished → ⊥)
    → Sees (bytes ++ more) seen
sees_more bytes more seen sees decided = by (head_end bytes) refl
  where
    by : (o : Option (ℕ × ℕ)) → head_end bytes ≡ o → Sees (bytes ++ more) seen
    by None e =
        let is_seen : seen ≡ seen_after bytes None None = rw e at sees.is_seen in
        let long = over_limit bytes seen is_seen decided in
        no_end (bytes ++ more) (end_same bytes more long ∙ e) seen (is_seen ∙ late_same bytes more long)
    by (Some end) e =
        let later = end_more bytes more end e in
        let alone = head_alone bytes end e in
        let is_seen : seen ≡ body_seen (drop end.0 bytes) (outline_of end.1 sees.read) = rw e at sees.is_seen in
        let is_read : IsReadAs end.1 (take end.0 bytes) sees.read = rw e at sees.is_read in
        with_end (bytes ++ more) end sees.read seen later (rw (take-append-le end.0 bytes more alone.0) is_read)
        (rw (drop-append-le end.0 bytes more alone.0)
        (is_seen ∙ sym (body_more (drop end.0 bytes) more (outline_of end.1 sees.read) (λ q. decided (is_seen ∙ q)))))

-- ---- one answer

one_reading : (lines : ℕ) (bytes : List ℕ) (a b : Option RequestHead) → IsReadAs lines bytes a → IsReadAs lines bytes b
    → a ≡ b
one_reading lines bytes a b p q = by (nat_lt line_limit lines) p q
  where
    heads : (x y : Option RequestHead) → IsHead bytes x → IsHead bytes y → x ≡ y
    heads None None r s = refl
    heads None (Some h) r s = absurd (r h s)
    heads (Some h) None r s = absurd (s h r)
    heads (Some h) (Some k) r s = ap (λ (x : RequestHead). Some x) (request_unique bytes h k [] [] r s).0

    by : (t : Bool) → IsReadIf t bytes a → IsReadIf t bytes b → a ≡ b
    by true r s = r ∙ sym s
    by false r s = heads a b r s

-- bytes amount to one thing alone
pub sees_once : (bytes : List ℕ) (seen other : ParseState) → Sees bytes seen → Sees bytes other → seen ≡ other
sees_once bytes seen other p q = p.is_seen
    ∙ ap (seen_after bytes (head_end bytes)) (same (head_end bytes) p.is_read q.is_read) ∙ sym q.is_seen
  where
    same : (o : Option (ℕ × ℕ)) → IsHeadRead bytes o p.read → IsHeadRead bytes o q.read → p.read ≡ q.read
    same None r s = r ∙ sym s
    same (Some end) r s = one_reading end.1 (take end.0 bytes) p.read q.read r s

-- ---- the reading itself

-- a search that came to no end
pub none_found : (bytes : List ℕ) {limit : ℕ} {s : Scan} → limit ≡ min (length bytes) 16384
    → ((more : List ℕ) → end_from scan_start (take limit bytes ++ more) ≡ end_from s more) → head_end bytes ≡ None
none_found bytes e h = end_is bytes _ None e (h [])

-- a search that came to one
pub end_found : (bytes : List ℕ) {limit n lines : ℕ} → limit ≡ min (length bytes) 16384
    → ((more : List ℕ) → end_from scan_start (take limit bytes ++ more) ≡ Some (n, lines))
    → head_end bytes ≡ Some (n, lines)
end_found bytes e h = end_is bytes _ _ e (h [])

-- the head's bytes are all of a head
pub is_head_alone : (bytes : List ℕ) {limit n lines : ℕ} → limit ≡ min (length bytes) 16384
    → ((more : List ℕ) → end_from scan_start (take limit bytes ++ more) ≡ Some (n, lines))
    → end_from scan_start (take n bytes) ≡ Some (length (take n bytes), lines)
is_head_alone bytes {n = n} e h =
    let alone = head_alone bytes _ (end_found bytes e h) in
    rw (length-take-le n bytes alone.0) alone.1

-- what a head and the bytes behind it amount to, by what the head gave
pub sees_by : (bytes : List ℕ) {limit n lines : ℕ} (given : Result ParsedHead HeadRefusal) (behind : List ℕ) (seen : ParseState)
    → limit ≡ min (length bytes) 16384
    → ((more : List ℕ) → end_from scan_start (take limit bytes ++ more) ≡ Some (n, lines))
    → Gives lines (take n bytes) given → behind ≡ take (length bytes - n) (drop n bytes)
    → seen ≡ body_seen behind given → Sees bytes seen
sees_by bytes {n = n} given behind seen e h reads shown is_seen =
    let rest = take_all (length bytes - n) (drop n bytes) (omega (arith, length-drop n bytes)) in
    with_end bytes _ reads.0 seen (end_found bytes e h) reads.1
    (rw (shown, rest) at is_seen ∙ ap (body_seen (drop n bytes)) reads.2)

-- ---- the host that a head names

pub no_host : (bytes : List ℕ) → head_end bytes ≡ None → NamesHost bytes None
no_host bytes none = record { read = None; is_read = rw none refl; is_named = rw none refl }

pub host_by : (bytes : List ℕ) {limit n lines : ℕ} (named : Option NamedHost) → limit ≡ min (length bytes) 16384
    → ((more : List ℕ) → end_from scan_start (take limit bytes ++ more) ≡ Some (n, lines))
    → Names lines (take n bytes) named → NamesHost bytes named
host_by bytes named e h names =
    let found = end_found bytes e h in
    record { read = names.0; is_read = rw found names.1; is_named = rw found names.2 }

-- ---- replies without a body

pub asks_none : (bytes : List ℕ) {limit front : ℕ} {s : Scan} {asks : Bool} → limit ≡ min (length bytes) 16384
    → front ≡ min (length bytes) 16385
    → ((more : List ℕ) → end_from scan_start (take limit bytes ++ more) ≡ end_from s more)
    → asks ≡ begin_with_head (take front bytes) → asks ≡ asks_head bytes
unfolding asks_head
asks_none bytes {front = front} e is_front h is =
    is ∙ ap begin_with_head (same_front past_limit bytes front is_front)
    ∙ sym (ap (asks_head_by bytes) (none_found bytes e h))

pub asks_some : (bytes : List ℕ) {limit n lines : ℕ} {asks : Bool} → limit ≡ min (length bytes) 16384
    → ((more : List ℕ) → end_from scan_start (take limit bytes ++ more) ≡ Some (n, lines))
    → asks ≡ begin_with_head (take n bytes) → asks ≡ asks_head bytes
unfolding asks_head
asks_some bytes e h is = is ∙ sym (ap (asks_head_by bytes) (end_found bytes e h))

-- more bytes do not change it, where something stands decided
pub asks_more : (bytes more : List ℕ) (seen : ParseState) → Sees bytes seen → (seen ≡ unfinished → ⊥)
    → asks_head (bytes ++ more) ≡ asks_head bytes
unfolding asks_head
asks_more bytes more seen sees decided = by (head_end bytes) refl
  where
    by : (o : Option (ℕ × ℕ)) → head_end bytes ≡ o
        → asks_head_by (bytes ++ more) (head_end (bytes ++ more)) ≡ asks_head_by bytes (head_end bytes)
    by None e =
        let is_seen : seen ≡ seen_after bytes None None = rw e at sees.is_seen in
        let long = over_limit bytes seen is_seen decided in
        let later : head_end (bytes ++ more) ≡ None = end_same bytes more long ∙ e in
        rw (later, e) (ap begin_with_head (take-append-le past_limit bytes more long))
    by (Some end) e =
        let later = end_more bytes more end e in
        let alone = head_alone bytes end e in
        rw (later, e) (ap begin_with_head (take-append-le end.0 bytes more alone.0))
