use Rattle.std.proofs.Common.{◌≡◌, ℕ, List, [], ◌∷◌, ◌++◌, codes, append_assoc}
use Rattle.std.specs.Prelude.{string_bytes}
use Rattle.csa.specs.Writing.{line_of, date_text}
use Rattle.csa.specs.internal.Writer.{lines_text}
use Rattle.csa.proofs.writing.push_head.Goals as goal

-- nine texts added one after another
chain : (t t1 t2 t3 t4 t5 t6 t7 t8 t9 a b c d s e n p x : List ℕ) →
    t1 ≡ t ++ a → t2 ≡ t1 ++ b → t3 ≡ t2 ++ c → t4 ≡ t3 ++ d → t5 ≡ t4 ++ s → t6 ≡ t5 ++ e → t7 ≡ t6 ++ n → t8 ≡ t7 ++ p
    → t9 ≡ t8 ++ x →
    t9 ≡ t ++ (a ++ (b ++ (c ++ (d ++ ((s ++ (e ++ n)) ++ (p ++ x))))))
chain t t1 t2 t3 t4 t5 t6 t7 t8 t9 a b c d s e n p x e1 e2 e3 e4 e5 e6 e7 e8 e9 =
    simp (e9, e8, e7, e6, e5, e4, e3, e2, e1, append_assoc)

pub returns : goal.returns
unfolding lines_text
returns c =
    let head = c.args.head.now in
    chain (string_bytes c.args.text.now) _ _ _ _ _ _ _ _ _
    (line_of (codes "V2.2") []) (line_of (codes "N+") head.black.now) (line_of (codes "N-") head.white.now)
    (line_of (codes "$EVENT:") head.event.now)
    (codes "$START_TIME:") (date_text c.args.start.now) (10 ∷ []) (line_of (codes "PI") []) (line_of (codes "+") [])
    c.in_ok-push_line.ensures c.in_ok-push_line-2.ensures c.in_ok-push_line-3.ensures c.in_ok-push_line-4.ensures
    c.in_ok-push_str.ensures.bytes c.in_ok-push_date.ensures c.in_ok-push_line-5.ensures c.in_ok-push_line-6.ensures
    c.in_ok-push_line-7.ensures
