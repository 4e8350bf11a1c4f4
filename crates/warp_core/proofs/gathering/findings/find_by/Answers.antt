use Rattle.std.proofs.Common.{◌≡◌, ◌<◌, ◌++◌, ◌∙◌, ℕ, Option, Some, None, List, IfOk, IfSome, Result, Ok, Err, map, length, take, drop, sym, subst, ap, arith}
use Rattle.std.proofs.lemmas.Grind.{common_steps}
use Rattle.std.proofs.lemmas.List.{length-map}
use Rattle.warp_core.specs.declared.gathering.findings.Finding.{Finding}
use Rattle.warp_core.specs.Inner.Findings.{IsFinding}
use Rattle.warp_core.proofs.Finding.{known_at}
use Rattle.warp_core.proofs.gathering.findings.find_by.Goals as goal

-- a slice that stands for all of a list is what the list becomes
written : {T : Type 0} → (new old : List T) (n : ℕ) → length new ≡ n → length old ≡ n → take n (new ++ drop (length new) old) ≡ new
written new old n first second = grind (arith, common_steps)

ok_more : {A B : Type 0} (P Q : A → Type 0) (r : Result A B) → ((x : A) → P x → Q x) → IfOk r P → IfOk r Q
ok_more P Q (Ok x) more h = more x h
ok_more P Q (Err e) more h = tt

pub returns : goal.returns
returns g c =
    let blocks = c.args.blocks.now in
    let answers : List (Option Finding) = c.for_each_mut.new.s in
    let old : c.as_mut_slice.result.now ≡ c.in_ok-answers.answers.items = c.as_mut_slice.ensures.value in
    let size : length c.as_mut_slice.result.now ≡ length blocks = ap length old ∙ (omega (arith, c.in_ok-answers.ensures.len, c.in_ok-answers.answers.ok.0)) in
    let longer : length answers ≡ length c.as_mut_slice.result.now = c.for_each_mut.auto.s in
    let all = c.as_slice.ensures.value ∙ written answers c.in_ok-answers.answers.items c.in_ok-answers.answers.len (omega (arith, longer, ap length old, c.in_ok-answers.answers.ok.0)) (sym c.in_ok-answers.answers.ok.0) in
    ok_more _ _ c.known.result (λ found same.
    let same' : map Some found.items ≡ answers = same ∙ all in
    let count : length found.items ≡ length blocks = sym (length-map found.items (λ (f : Finding). Some f)) ∙ (ap length same' ∙ (longer ∙ size)) in
    record {
      count = count ∙ c.requires.count;
      each = λ b f l.
          let within : b < length c.as_mut_slice.result.now = omega (arith, l, size, c.requires.count) in
          let call = (c.for_each_mut.ensures b None within).1 in
          known_at c.args.circuit.now c.args.cut.now c.args.stimulus.now c.args.horizon blocks answers found.items b f same' (omega (arith, l, count, c.requires.count))
          (subst (λ o. IfSome o (IsFinding c.args.circuit.now c.args.cut.now c.args.stimulus.now c.args.horizon blocks b)) call.left call.call);
    }) c.known.ensures
