-- What the parts that a route of the desk takes ask for is what its path asks for.
use Rattle.std.proofs.Common.{◌≡◌, ◌∙◌, ℕ, zero, suc, ◌<◌, ◌≤◌, List, [], ◌∷◌, length, Bool, true, false, ◌&&◌, leb}
use Rattle.std.proofs.Common.{if◌then◌else◌, Option, Some, None, codes, map, refl, subst, arith, inl, inr}
use Rattle.std.proofs.lemmas.Bool.{and_parts}
use Rattle.std.proofs.lemmas.Bool.Decides.{nat_tests}
use Rattle.std.proofs.lemmas.Str.{IsUtf8-from_is_utf8}
use Rattle.std.specs.Str.{IsUtf8, is_utf8, chars}
use lib.Utf8.{encode}
use Rattle.matchit.specs.Rows.{RowsOf}
use Rattle.matchit.specs.Router.{RouteOf}
use Rattle.matchit.specs.Route.{scan}
use Rattle.matchit.specs.Params.{walk, part_of, named, AllText}
use Rattle.matchit.specs.Seek.{first}
use Rattle.http_desk.specs.declared.table.Route.{Route}
use Rattle.http_desk.specs.Paths.{segments}
use Rattle.http_desk.specs.internal.Paths.{text_of}
use Rattle.http_desk.specs.Routes.{routes, endpoint_by, parameter_of, endpoint_of, endpoint_of_path}
use Rattle.http_desk.specs.internal.Taken.{Parts, endpoint_taken}
use Rattle.http_desk.proofs.FilledPaths.{filled, later, is_plain, HaveNoSlash}
use Rattle.http_desk.proofs.FoundPaths.{Among, IsFound, sought}
use Rattle.http_desk.proofs.PartTexts.{AreTexts, parameters, parts_text}
use Rattle.http_desk.proofs.SegmentLemmas.{segments_filled, filled_segments}
use Rattle.http_desk.proofs.WalkedPaths.{named_parts, walked}

-- two ways to look up parameters agree on the names of the routes
record AreAlike (one other : List ℕ → Option (List ℕ)) : Type 0 where
  id : one (codes "id") ≡ other (codes "id")
  ply : one (codes "ply") ≡ other (codes "ply")
  number : one (codes "number") ≡ other (codes "number")
  name : one (codes "name") ≡ other (codes "name")
  member : one (codes "member") ≡ other (codes "member")

same_endpoint : (route : Route) (one other : List ℕ → Option (List ℕ)) → AreAlike one other
    → endpoint_by route one ≡ endpoint_by route other
same_endpoint route one other a = rw (a.id, a.ply, a.number, a.name, a.member) refl

-- the parts that a route took are text, and ask for what the path asks for
pub record IsAsked (route : RouteOf Route) (path : List ℕ) : Type 0 where
  pub texts : AllText (walk route.pattern route.text path route.names 0 0)
  pub same : endpoint_taken route.value (walk route.pattern route.text path route.names 0 0)
      ≡ endpoint_of (Some route) path

-- a route whose parts are so for each path that fills it
record IsGood (pattern : List ℕ) (route : RouteOf Route) : Type 0 where
  plain : is_plain pattern ≡ true
  asked : (parts : ℕ → List ℕ) → HaveNoSlash parts → IsUtf8 (filled pattern parts)
      → IsAsked route (filled pattern parts)

AllGood : RowsOf (RouteOf Route) → Type 0
AllGood [] = Unit {0}
AllGood ((pattern, route) ∷ rows) = IsGood pattern route × AllGood rows

good_among : (pattern : List ℕ) (route : RouteOf Route) (rows : RowsOf (RouteOf Route)) → AllGood rows
    → Among pattern route rows → IsGood pattern route
unfolding AllGood
good_among pattern route [] all is = absurd is
good_among pattern route ((other, kept) ∷ rows) all (inl same) =
    subst (λ p. IsGood p route) same.0 (subst (λ r. IsGood other r) same.1 all.0)
good_among pattern route ((other, kept) ∷ rows) all (inr more) = good_among pattern route rows all.1 more

-- the names of parameters are text
are_texts : List ℕ → List (ℕ × ℕ) → Bool
are_texts text [] = true
are_texts text (name ∷ names) = is_utf8 (part_of text name.0 name.1) && are_texts text names

texts_of : (text : List ℕ) (names : List (ℕ × ℕ)) (parts : ℕ → List ℕ) (n : ℕ) → are_texts text names ≡ true
    → length names ≤ n → ((i : ℕ) → i < n → IsUtf8 (parts i)) → AllText (named_parts text names parts)
unfolding are_texts
texts_of text [] parts n good few all = tt
texts_of text (name ∷ names) parts zero good few all = absurd (omega arith)
texts_of text (name ∷ names) parts (suc n) good few all = (
  IsUtf8-from_is_utf8 _ (and_parts _ _ good).0,
  all 0 (omega arith),
  texts_of text names (later parts) n (and_parts _ _ good).1 (omega arith) (λ i is. all (suc i) (omega arith)),
)

is_good : List ℕ → RouteOf Route → Bool
is_good pattern route =
    is_plain pattern && (are_texts route.text route.names && (leb (length route.names) (parameters pattern)
    && leb (length pattern) 18446744073709551615))

-- the names of a route are in its path where its pattern has parameters
HasNames : List ℕ → RouteOf Route → Type 0
HasNames pattern route = (parts : ℕ → List ℕ) → AreAlike (λ name. named name (named_parts route.text route.names parts))
    (parameter_of (segments route.text) (segments_filled (segments pattern) parts))

good : (pattern : List ℕ) (route : RouteOf Route) → route.pattern ≡ pattern → is_good pattern route ≡ true
    → HasNames pattern route → IsGood pattern route
unfolding is_good HasNames
good pattern route own fine has =
    let plain = and_parts (is_plain pattern) _ fine in
    let texts = and_parts (are_texts route.text route.names) _ plain.1 in
    let few : length route.names ≤ parameters pattern = grind (arith, nat_tests) in
    let short : length pattern ≤ 18446744073709551615 = grind (arith, nat_tests) in
    record {
      plain = plain.0;
      asked = λ parts none text_of_path.
          let all = parts_text pattern parts plain.0 text_of_path in
          let walk_is =
          walked pattern route.text pattern (filled pattern parts) 0 plain.0 refl short route.names 0 parts none refl
          (omega arith) few in
          record {
            texts = rw (own, walk_is) (texts_of route.text route.names parts (parameters pattern) texts.0 few all);
            same = rw (own, walk_is, filled_segments pattern parts none)
                (same_endpoint route.value _ _ (has parts));
          };
    }

-- the names of the parameters
all_names : List (List ℕ)
all_names = codes "id" ∷ codes "ply" ∷ codes "number" ∷ codes "name" ∷ codes "member" ∷ []

-- ---- the rows of a table at once

module _ {A : Type 0} where
  first_same : (x y : A) (xs ys : List A) → x ∷ xs ≡ y ∷ ys → x ≡ y
  first_same x y xs ys is = cc

  rest_same : (x y : A) (xs ys : List A) → x ∷ xs ≡ y ∷ ys → xs ≡ ys
  rest_same x y xs ys is = cc

alike_from : (one other : List ℕ → Option (List ℕ)) → map one all_names ≡ map other all_names → AreAlike one other
unfolding all_names
alike_from one other is = record { id = cc; ply = cc; number = cc; name = cc; member = cc }

-- the pattern of each row, and the one that its route has
row_patterns : RowsOf (RouteOf Route) → List (List ℕ)
row_patterns [] = []
row_patterns ((pattern, route) ∷ rows) = pattern ∷ row_patterns rows

route_patterns : RowsOf (RouteOf Route) → List (List ℕ)
route_patterns [] = []
route_patterns ((pattern, route) ∷ rows) = route.pattern ∷ route_patterns rows

are_good : RowsOf (RouteOf Route) → Bool
are_good [] = true
are_good ((pattern, route) ∷ rows) = is_good pattern route && are_good rows

-- the parameters of each row by the names of its route, and by the segments of its path
parts_by_names : RowsOf (RouteOf Route) → (ℕ → List ℕ) → List (List (Option (List ℕ)))
parts_by_names [] parts = []
parts_by_names ((pattern, route) ∷ rows) parts =
    map (λ name. named name (named_parts route.text route.names parts)) all_names ∷ parts_by_names rows parts

parts_by_segments : RowsOf (RouteOf Route) → (ℕ → List ℕ) → List (List (Option (List ℕ)))
parts_by_segments [] parts = []
parts_by_segments ((pattern, route) ∷ rows) parts =
    map (parameter_of (segments route.text) (segments_filled (segments pattern) parts)) all_names
    ∷ parts_by_segments rows parts

rows_good : (rows : RowsOf (RouteOf Route)) → route_patterns rows ≡ row_patterns rows → are_good rows ≡ true
    → ((parts : ℕ → List ℕ) → parts_by_names rows parts ≡ parts_by_segments rows parts) → AllGood rows
unfolding AllGood HasNames route_patterns row_patterns are_good parts_by_names parts_by_segments
rows_good [] own fine has = tt
rows_good ((pattern, route) ∷ rows) own fine has =
    let both = and_parts (is_good pattern route) (are_good rows) fine in (
      good pattern route (first_same _ _ _ _ own) both.0
          (λ parts. alike_from _ _ (first_same _ _ _ _ (has parts))),
      rows_good rows (rest_same _ _ _ _ own) both.1 (λ parts. rest_same _ _ _ _ (has parts)),
    )

-- all routes of the table
all_good : AllGood routes
unfolding routes scan route_patterns row_patterns are_good is_good are_texts parts_by_names parts_by_segments all_names
    is_utf8 chars encode
all_good = rows_good routes refl refl (λ parts. refl)

-- what a path asks for whose route was found, by the parts that were taken
pub record IsAskedBy (route : Route) (parts : Parts) (path : List ℕ) : Type 0 where
  pub texts : AllText parts
  pub asks : endpoint_taken route parts ≡ endpoint_of_path (Some path)

pub endpoint_by_parts : (rows : RowsOf (RouteOf Route)) (given path seen : List ℕ) (route : RouteOf Route)
    → rows ≡ routes → Some path ≡ text_of given → first rows path ≡ Some route → seen ≡ path
    → IsAskedBy route.value (walk route.pattern route.text seen route.names 0 0) given
endpoint_by_parts rows given path seen route all is found same = by (is_utf8 given) refl is
  where
    by : (v : Bool) → is_utf8 given ≡ v → Some path ≡ (if v then Some given else None)
        → IsAskedBy route.value (walk route.pattern route.text seen route.names 0 0) given
    by true good one =
        let whole : path ≡ given = cc in
        let here : first routes given ≡ Some route = rw (all, whole) at found in
        let seek_is : IsFound routes given route = sought 0 routes given route here in
        let one = good_among seek_is.pattern route routes all_good seek_is.among in
        let full = seek_is.fills one.plain in
        let asked : IsAsked route given = rw full.same
        (one.asked full.parts full.whole (rw full.same at (IsUtf8-from_is_utf8 given good))) in
        rw (same ∙ whole) (record { texts = asked.texts; asks = rw (good, here) asked.same })
    by false good one = cc
