use Rattle.std.proofs.Common.{◌≡◌, ◌∙◌, ℕ, ◌+◌, List, [], ◌∷◌, ◌++◌, ap, sym, subst, arith, rules}
use Rattle.std.proofs.lemmas.List.FromFn.{map-range_with_len_more}
use Rattle.gate_values.specs.declared.logic.Logic.{Logic}
use Rattle.warp_gates.specs.Inner.Outputs.{entry_at, entries}
use Rattle.warp_gates.proofs.outputs.Outputs.new.Goals as goal

entries_more : (n : ℕ) → entries (n + 1) ≡ entries n ++ entry_at n ∷ []
entries_more n = map-range_with_len_more entry_at 0 n n (omega arith)

pub loop-entry-preserved : goal.loop-entry-preserved
loop-entry-preserved c =
    let entry : c.output.result ≡ entry_at c.loop-entry.entry = search rules in
    c.in_ok-push.ensures.items
    ∙ ap (λ (vs : List Logic). vs ++ c.output.result ∷ []) c.loop-entry.invariant
    ∙ ap (λ (v : Logic). entries c.loop-entry.entry ++ v ∷ []) entry
    ∙ sym (entries_more c.loop-entry.entry)

pub invariant_of-result : goal.invariant_of-result
invariant_of-result c =
    let end : c.loop-entry.entry ≡ 2048 = omega arith in
    record { each = record { each = subst (λ n. c.loop-entry.values.items ≡ entries n) end c.loop-entry.invariant } }
