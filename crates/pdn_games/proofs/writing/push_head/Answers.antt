use Rattle.std.proofs.Common.{◌≡◌, ℕ, List, [], ◌∷◌, ◌++◌, codes, append_assoc, ap, ◌∙◌}
use Rattle.std.specs.Prelude.{string_bytes}
use Rattle.pdn_games.specs.Writing.{tag_line, date_text, result_text}
use Rattle.pdn_games.specs.internal.Writer.{tags_text}
use Rattle.pdn_games.proofs.writing.push_head.Goals as goal

-- seven texts added one after another
chain : (t t1 t2 t3 t4 t5 t6 t7 a b c d s e n : List ℕ) → t1 ≡ t ++ a → t2 ≡ t1 ++ b → t3 ≡ t2 ++ c → t4 ≡ t3 ++ d
    → t5 ≡ t4 ++ s → t6 ≡ t5 ++ e → t7 ≡ t6 ++ n → t7 ≡ t ++ (a ++ (b ++ (c ++ (d ++ (s ++ (e ++ n))))))
chain t t1 t2 t3 t4 t5 t6 t7 a b c d s e n e1 e2 e3 e4 e5 e6 e7 =
    rw (e7, e6, e5, e4, e3, e2, e1) (simp append_assoc)

pub returns : goal.returns
unfolding tags_text
returns c =
    let head = c.args.head.now in
    chain (string_bytes c.args.text.now) _ _ _ _ _ _ _
    (tag_line (codes "Event") head.event.now) (tag_line (codes "Date") (date_text head.date))
    (tag_line (codes "White") head.white.now) (tag_line (codes "Black") head.black.now)
    (tag_line (codes "Result") (result_text head.score)) (tag_line (codes "GameType") (codes "20")) (10 ∷ [])
    c.in_ok-push_tag.ensures
    (c.in_ok-push_tag-2.ensures ∙ ap (λ d. string_bytes c.push_tag.new.text ++ tag_line (codes "Date") d)
    (c.as_str.ensures.value ∙ c.in_ok-date.ensures))
    c.in_ok-push_tag-3.ensures c.in_ok-push_tag-4.ensures
    (c.in_ok-push_tag-5.ensures ∙ ap (λ d. string_bytes c.push_tag-4.new.text ++ tag_line (codes "Result") d)
    c.result_text.ensures)
    c.in_ok-push_tag-6.ensures c.in_ok-push_str.ensures.bytes
