use Rattle.std.proofs.Common.{◌≡◌, ◌≢◌, ◌+◌, ◌<◌, ◌∙◌, ℕ, [], ◌∷◌, None, List, Vec, inl, inr, length, ap, subst, sym, arith}
use Rattle.std.specs.declared.alloc.Global.{Global}
use Rattle.std.proofs.lemmas.Bool.{cases_lt}
use Rattle.std.proofs.lemmas.List.{map-append, length-map, get_or_append_left, get_or_push, get_or_past}
use Rattle.gate_values.specs.declared.logic.Change.{Change}
use Rattle.gate_values.specs.Changes.{before_time}
use Rattle.gate_netlist.specs.Cut.{owner_of}
use Rattle.gate_stimulus.specs.Given.{changes_of}
use Rattle.net_waves.specs.Waves.{lists_in, wave_of, IsWave}
use Rattle.net_waves.proofs.Compared.{cases_eq}
use Rattle.warp_core.proofs.gathering.waves.given_lists.Goals as goal

pub loop-net-preserved : goal.loop-net-preserved
loop-net-preserved c =
    let h = c.loop-net.invariant in
    let k = c.loop-net.net in
    let lists = c.loop-net.lists.items in
    let list = c.in_ok-list.list in
    let new = lists_in c.push.new.self.items in
    let pushed = ap lists_in c.in_ok-push.ensures.items ∙ map-append (λ (v : Vec Change Global). v.items) lists (list ∷ []) in
    let count : length (lists_in lists) ≡ k = length-map lists (λ (v : Vec Change Global). v.items) ∙ (omega (arith, h.nets, c.loop-net.lists.ok.0)) in
    let many : length new ≡ k + 1 = length-map c.push.new.self.items (λ (v : Vec Change Global). v.items) ∙ (omega (arith, h.nets, c.in_ok-push.ensures.len, c.push.new.self.ok.0)) in
    let old : (n : ℕ) → n < k → wave_of new n ≡ wave_of (lists_in lists) n =
    λ n less. ap (λ (ls : List (List Change)). wave_of ls n) pushed ∙ get_or_append_left (lists_in lists) (list.items ∷ []) [] n (omega (arith, less, count)) in
    let last : wave_of new k ≡ list.items = ap (λ (ls : List (List Change)). wave_of ls k) pushed ∙ get_or_push (lists_in lists) list.items [] k count in
    record {
      nets = omega (arith, h.nets, c.in_ok-push.ensures.len);
      given = λ n less free. elim (cases_lt n k) [
        | inl before ↦ old n before ∙ h.given n before free
        | inr past ↦
            (let same : k ≡ n = omega (arith, less, past) in
            subst (λ m. wave_of new m ≡ before_time (c.args.horizon + 1) (changes_of c.args.stimulus.now m)) same
            (last ∙ c.in_ok-list.ensures.given (subst (λ m. owner_of c.args.cut.now m ≡ None) (sym same) free)))
      ];
      none = λ n less owned. elim (cases_lt n k) [
        | inl before ↦ old n before ∙ h.none n before owned
        | inr past ↦
            (let same : k ≡ n = omega (arith, less, past) in
            subst (λ m. wave_of new m ≡ []) same (last ∙ c.in_ok-list.ensures.none (subst (λ m. owner_of c.args.cut.now m ≢ None) (sym same) owned)))
      ];
      waves = λ n. elim (cases_lt n k) [
        | inl before ↦ subst IsWave (sym (old n before)) (h.waves n)
        | inr past ↦ elim (cases_eq k n) [
          | inl same ↦ subst (λ m. IsWave (wave_of new m)) same (subst IsWave (sym last) c.in_ok-list.ensures.wave)
          | inr other ↦ subst IsWave (sym (get_or_past new n [] (omega (arith, many, past, other)))) tt
        ]
      ];
    }
