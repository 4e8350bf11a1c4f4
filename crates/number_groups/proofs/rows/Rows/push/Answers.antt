use Rattle.std.proofs.Common.{◌≡◌, ◌∙◌, ◌++◌, ◌∷◌, [], ◌+◌, ◌≤◌, List, ℕ, length, ap, sym, subst, arith}
use Rattle.std.proofs.lemmas.List.{length-append}
use Rattle.number_groups.specs.Rows.{rows_from, AreEnds}
use Rattle.number_groups.proofs.Rowing.{rows_more, AreEnds-push}
use Rattle.number_groups.proofs.rows.Rows.push.Goals as goal

pub invariant_of-self-2 : goal.invariant_of-self-2
invariant_of-self-2 c =
    let numbers : c.extend_from_slice.new.self.items ≡ c.self.inside.numbers.items ++ c.args.row.now = c.in_ok-extend_from_slice.ensures.items in
    let ends : c.push_reserved.new.self.items ≡ c.self.inside.ends.items ++ c.len.result ∷ [] = c.push_reserved.ensures.items ∙ ap (λ (es : List ℕ). es ++ c.len.result ∷ []) c.reserve.ensures.items in
    let more : length c.extend_from_slice.new.self.items ≡ length c.self.inside.numbers.items + length c.args.row.now = ap length numbers ∙ length-append c.self.inside.numbers.items c.args.row.now in
    let later : length c.self.inside.numbers.items ≤ c.len.result = omega (arith, c.len.ensures) in
    let held : AreEnds 0 (c.self.inside.ends.items ++ c.len.result ∷ []) c.len.result = AreEnds-push 0 c.self.inside.ends.items c.len.result (length c.self.inside.numbers.items) c.self.invariant later in
    let len : c.len.result ≡ length c.extend_from_slice.new.self.items = omega (arith, c.len.ensures) in
    subst (λ (es : List ℕ). AreEnds 0 es (length c.extend_from_slice.new.self.items)) (sym ends) (subst (λ (n : ℕ). AreEnds 0 (c.self.inside.ends.items ++ c.len.result ∷ []) n) len held)

pub returns-clause-ok : goal.returns-clause-ok
returns-clause-ok c =
    let numbers : c.extend_from_slice.new.self.items ≡ c.self.inside.numbers.items ++ c.args.row.now = c.in_ok-extend_from_slice.ensures.items in
    let ends : c.push_reserved.new.self.items ≡ c.self.inside.ends.items ++ c.len.result ∷ [] = c.push_reserved.ensures.items ∙ ap (λ (es : List ℕ). es ++ c.len.result ∷ []) c.reserve.ensures.items in
    let more : length c.extend_from_slice.new.self.items ≡ length c.self.inside.numbers.items + length c.args.row.now = ap length numbers ∙ length-append c.self.inside.numbers.items c.args.row.now in
    let len : c.len.result ≡ length c.self.inside.numbers.items + length c.args.row.now = omega (arith, c.len.ensures) in
    ap (λ (es : List ℕ). rows_from 0 es c.extend_from_slice.new.self.items) ends
    ∙ ap (λ (ns : List ℕ). rows_from 0 (c.self.inside.ends.items ++ c.len.result ∷ []) ns) numbers
    ∙ rows_more c.self.inside.ends.items c.self.inside.numbers.items c.args.row.now c.len.result c.self.invariant len
    ∙ ap (λ (rs : List (List ℕ)). rs ++ c.args.row.now ∷ []) c.self.view_is
