use Rattle.std.proofs.Common.{◌≡◌, ◌<◌, ◌++◌, ℕ, List, [], ◌∷◌, get_or, length, vec_len, ap, sym, ◌∙◌, arith, Vec}
use Rattle.std.specs.declared.alloc.Global.{Global}
use Rattle.gate_values.specs.declared.logic.Change.{Change}
use Rattle.warp_process.specs.Rows.{Standing}
use Rattle.warp_process.specs.Shown.Rows.{lists_in}
use Rattle.warp_process.proofs.Rows.{row_at}
use Rattle.warp_process.proofs.Telling.{told_some, told_silent, list_set}
use Rattle.warp_process.proofs.by_net.tell_row.Goals.{in-Some+in_ok-push, in_default}
use Rattle.warp_process.proofs.by_net.tell_row.Goals as goal

pub index_mut-requires : goal.index_mut-requires
index_mut-requires c = (let within = c.requires.within c.loop-placed.placed-index c.placed-item.result c.loop-placed-test.true in
    let here = ap (λ (s : Standing). s.place) c.placed-item.is in
    omega (arith, within, here, c.place.ensures, c.loop-placed.invariant.count))

-- the place is one of the lists'
bound : (c : goal.Joined-effective) (p : ℕ) → p ≡ c.placed-item.result.place → p < length c.loop-placed.lists.items
bound c p e =
    let within = c.requires.within c.loop-placed.placed-index c.placed-item.result c.loop-placed-test.true in
    let here = ap (λ (s : Standing). s.place) c.placed-item.is in
    let size : vec_len c.loop-placed.lists ≡ length c.loop-placed.lists.items = c.loop-placed.lists.ok.0 in
    omega (arith, within, here, e, c.loop-placed.invariant.count, size)

pub loop-placed-preserved : goal.loop-placed-preserved
loop-placed-preserved c = elim c.match-effective.branch [
  | in-Some+in_ok-push w ↦ record {
    count = ap vec_len w.lists-is ∙ c.loop-placed.invariant.count;
    told = λ i. told_some c.args.row.now c.requires.row c.loop-placed.placed-index c.placed-item.result c.loop-placed-test.true c.placed-item.is c.args.time i
        (get_or (lists_in c.loop-placed.lists.items) i []) (get_or (lists_in c.match-effective.lists.items) i []) (get_or (lists_in c.args.lists.now.items) i []) (c.loop-placed.invariant.told i)
        w.in-Some.value (sym c.effective.ensures ∙ w.in-Some.is)
        (λ same. ap (λ (v : Vec (Vec Change Global) Global). get_or (lists_in v.items) i []) w.lists-is
        ∙ ((list_set c.loop-placed.lists.items w.place.result i w.push.new.self (bound c w.place.result w.place.ensures)).0 (same ∙ sym w.place.ensures)
        ∙ (w.in_ok-push.ensures.items ∙ ap (λ (cs : List Change). cs ++ record { time = c.args.time; value = w.in-Some.value } ∷ [])
        (sym (row_at c.loop-placed.lists.items w.place.result w.index_mut.result.now (bound c w.place.result w.place.ensures) w.index_mut.ensures.value)
        ∙ ap (λ j. get_or (lists_in c.loop-placed.lists.items) j []) (sym (same ∙ sym w.place.ensures))))))
        (λ other. ap (λ (v : Vec (Vec Change Global) Global). get_or (lists_in v.items) i []) w.lists-is
        ∙ (list_set c.loop-placed.lists.items w.place.result i w.push.new.self (bound c w.place.result w.place.ensures)).1 (λ e. other (e ∙ w.place.ensures)));
  }
  | in_default w ↦ record {
    count = ap vec_len w.lists-is ∙ c.loop-placed.invariant.count;
    told = λ i. told_silent c.args.row.now c.requires.row c.loop-placed.placed-index c.placed-item.result c.loop-placed-test.true c.placed-item.is c.args.time i
        (get_or (lists_in c.loop-placed.lists.items) i []) (get_or (lists_in c.match-effective.lists.items) i []) (get_or (lists_in c.args.lists.now.items) i []) (c.loop-placed.invariant.told i)
        (sym c.effective.ensures ∙ w.in_default.is) (ap (λ (v : Vec (Vec Change Global) Global). get_or (lists_in v.items) i []) w.lists-is);
  }
]
