-- A step: flip-flops load, values are shown, gates are evaluated.
use Rattle.std.proofs.Common.{◌≡◌, ◌∙◌, inl, inr, ℕ, ◌/◌, ◌<◌, ◌≤◌, Bool, true, false, ◌&&◌, ◌||◌, not, eqb, List, [], ◌∷◌, ◌++◌, length, map, take, drop, get_or, refl, ap, sym, subst, arith}
use borrow.Author.Tests.{eqb-true}
use Rattle.std.specs.List.{All}
use Rattle.std.proofs.lemmas.Bool.{cases_lt}
use Rattle.std.proofs.lemmas.List.{get_or_past, length-map, ext_get_or, take_at}
use Rattle.std.proofs.Math.ListN.{get_or-map}
use Rattle.std.proofs.lemmas.List.Folds.{list_any-append}
use Rattle.gate_values.specs.declared.logic.Logic.{Logic}
use Rattle.gate_values.specs.declared.logic.Logic.TheVariants.{X}
use Rattle.warp_stores.specs.Words.{Move}
use Rattle.warp_gates.specs.declared.front.Front.{Front}
use Rattle.warp_gates.specs.declared.put.Put.{Put}
use Rattle.warp_gates.specs.Cells.{Cell, Outside, Gate, Flop, value_at, cell_at, next_output, moved, put_of, ArePut, HaveNext}
use Rattle.warp_gates.specs.Inner.Fronts.{front_at, row_of, has, has_gate, reached, AreReaders, AreFronts, AreSettled, AreTouched, IsKept, IsFresh}
use Rattle.warp_gates.specs.Inner.Told.{AreTold, AreEvaluating, AreRefreshed, AreListed, IsEdge, all_edges, is_gate}
use Rattle.warp_gates.specs.Inner.Loading.{IsLoaded, AreLoaded, loaded_output}
use Rattle.gate_values.specs.declared.gate.Kind.TheVariants.{And}
use Rattle.warp_gates.specs.Inner.Held.{ArePassedOn}
use Rattle.warp_gates.specs.Shown.Held.{gates_of}
use Rattle.gate_values.specs.Tables.{flip_of}
use Rattle.warp_gates.proofs.Showing.{eqb_same, or_true}
use Rattle.warp_gates.proofs.Moving.{true_or_not}
use Rattle.warp_gates.proofs.Telling.{put_of-itself}
use Rattle.warp_gates.proofs.Reached.{listed_gate}
use Rattle.warp_gates.proofs.Evaluating.{showing_settled, is_edge}

fresh_loaded : (values : List Logic) (words : List Move) (cell : Cell) (f g : Front) → g.is_stale ≡ false → f.is_stale ≡ false → g.output ≡ loaded_output values words cell f.output → IsFresh values cell f → IsFresh values cell g
fresh_loaded values words Outside f g fresh was output h = tt
fresh_loaded values words (Flop d clock) f g fresh was output h = tt
fresh_loaded values words (Gate kind inputs) f g fresh was output h = elim h [
  | inl stale ↦ cc
  | inr settled ↦ inr (output ∙ settled)
]

-- flip-flops that load show nothing else
pub fronts_loaded : (cells : List Cell) (values : List Logic) (words : List Move) (first second : List Front) → AreFronts cells values first → AreSettled first → AreLoaded cells values words first second → AreFronts cells values second
fronts_loaded cells values words first second fronts settled loaded =
    let len : length first ≡ length cells = fronts.same in
    record {
      same = loaded.same ∙ fronts.same;
      showing = λ place d h.
          let l : IsLoaded values words (cell_at cells place) (front_at d first place) (front_at d second place) = loaded.each place d (omega arith) in
          showing_settled values (cell_at cells place) (front_at d first place) (front_at d second place) l.kind l.pins (fronts.showing place d h);
      fresh = λ place d h.
          let l : IsLoaded values words (cell_at cells place) (front_at d first place) (front_at d second place) = loaded.each place d (omega arith) in
          fresh_loaded values words (cell_at cells place) (front_at d first place) (front_at d second place) l.fresh (settled.each place d (omega arith)) l.output (fronts.fresh place d h);
    }

-- where flip-flops loaded, no place is stale
pub settled_loaded : (cells : List Cell) (values : List Logic) (words : List Move) (first second : List Front) → AreLoaded cells values words first second → AreSettled second
settled_loaded cells values words first second loaded =
    let len : length second ≡ length first = loaded.same in
    record {
      each = λ place d h.
          let l : IsLoaded values words (cell_at cells place) (front_at d first place) (front_at d second place) = loaded.each place d (omega arith) in
          l.fresh;
    }

-- values that are shown tell nothing
pub told_touched : (rows : List (List ℕ)) (words : List Move) (first second third : List Front) (before out : List Put) → AreTold first second before out → AreTouched rows words second third → AreTold first third before out
told_touched rows words first second third before out told touched =
    let len : length second ≡ length first = told.same in
    record {
      same = touched.same ∙ told.same;
      queues = λ place d h. let k : IsKept (front_at d second place) (front_at d third place) = touched.kept place d (omega arith) in k.queue ∙ told.queues place d h;
      sent = told.sent;
      appended = told.appended;
      each = λ place d h.
          let k : IsKept (front_at d second place) (front_at d third place) = touched.kept place d (omega arith) in
          told.each place d h ∙ ap (λ (v : Logic). put_of place (front_at d first place).queue (front_at d first place).output v) (sym k.output);
      past = told.past;
    }

gate_of_edge : (cells : List Cell) (rows : List (List ℕ)) (place gate : ℕ) (edges : List ℕ) → AreReaders cells rows → ((e : ℕ) → has edges e ≡ true → has (row_of rows place) e ≡ true) → has_gate edges gate ≡ true → is_gate (cell_at cells gate) ≡ true
gate_of_edge cells rows place gate [] readers inside h = cc
gate_of_edge cells rows place gate (e ∷ es) readers inside h = elim (true_or_not (eqb (e / 8) gate)) [
  | inl here ↦
      let member : has (e ∷ es) e ≡ true = ap (λ (b : Bool). b || has es e) (eqb_same e e refl) in
      let edge : IsEdge cells e = is_edge cells rows place e readers (inside e member) in
      let same : e / 8 ≡ gate = eqb-true (e / 8) gate here in
      subst (λ (g : ℕ). is_gate (cell_at cells g) ≡ true) same edge.gate
  | inr there ↦
      let rest : has_gate es gate ≡ true = sym (ap (λ (b : Bool). b || has_gate es gate) there) ∙ h in
      gate_of_edge cells rows place gate es readers (λ x m. inside x (ap (λ (b : Bool). eqb e x || b) m ∙ or_true (eqb e x))) rest
]

-- what is reached is a gate
pub reached_gate : (cells : List Cell) (rows : List (List ℕ)) (words : List Move) (gate : ℕ) → AreReaders cells rows → reached rows words gate ≡ true → is_gate (cell_at cells gate) ≡ true
reached_gate cells rows [] gate readers h = cc
reached_gate cells rows (w ∷ ws) gate readers h = elim (true_or_not (has_gate (row_of rows w.place) gate)) [
  | inl here ↦ gate_of_edge cells rows w.place gate (row_of rows w.place) readers (λ e m. m) here
  | inr there ↦ reached_gate cells rows ws gate readers (sym (ap (λ (b : Bool). b || reached rows ws gate) there) ∙ h)
]

pub reached-edges : (rows : List (List ℕ)) (words : List Move) (gate : ℕ) → has_gate (all_edges rows words) gate ≡ reached rows words gate
reached-edges rows [] gate = refl
reached-edges rows (w ∷ ws) gate = list_any-append (λ e. eqb (e / 8) gate) (row_of rows w.place) (all_edges rows ws) ∙ ap (λ (b : Bool). has_gate (row_of rows w.place) gate || b) (reached-edges rows ws gate)

loaded_gate : (values : List Logic) (words : List Move) (cell : Cell) (v : Logic) → is_gate cell ≡ true → loaded_output values words cell v ≡ v
loaded_gate values words Outside v h = refl
loaded_gate values words (Gate kind inputs) v h = refl
loaded_gate values words (Flop d clock) v h = cc

-- what is stale puts out what it did at first
pub evaluating_begins : (cells : List Cell) (rows : List (List ℕ)) (values now : List Logic) (words : List Move) (first second third : List Front) (before out : List Put)
    → AreReaders cells rows → AreFronts cells now third → AreLoaded cells values words first second → AreTouched rows words second third → AreTold first second before out → AreEvaluating cells now first third before out
evaluating_begins cells rows values now words first second third before out readers fronts loaded touched told =
    let len : length second ≡ length first = loaded.same in
    record {
      fronts = fronts;
      told = told_touched rows words first second third before out told touched;
      stale = λ place d h s.
          let l : IsLoaded values words (cell_at cells place) (front_at d first place) (front_at d second place) = loaded.each place d h in
          let k : IsKept (front_at d second place) (front_at d third place) = touched.kept place d (omega arith) in
          elim (touched.stale place d (omega arith) s) [
            | inl was ↦ (let fresh : (front_at d second place).is_stale ≡ false = l.fresh in cc)
            | inr reach ↦ k.output ∙ l.output ∙ loaded_gate values words (cell_at cells place) (front_at d first place).output (reached_gate cells rows words place readers reach)
          ];
    }

-- no place is stale in the end
pub settled_in_the_end : (edges stale : List ℕ) (third fourth : List Front) → AreListed edges third stale → AreRefreshed stale third fourth → AreSettled fourth
settled_in_the_end edges stale third fourth listed refreshed =
    let len : length fourth ≡ length third = refreshed.same in
    record {
      each = λ place d h.
          let now : (front_at d fourth place).is_stale ≡ ((front_at d third place).is_stale && not (has_gate stale place)) = refreshed.stale place d (omega arith) in
          elim (true_or_not (front_at d third place).is_stale) [
            | inr fresh ↦ now ∙ ap (λ (b : Bool). b && not (has_gate stale place)) fresh
            | inl was ↦ now ∙ ap (λ (b : Bool). b && not (has_gate stale place)) was ∙ ap (λ (b : Bool). true && not b) (listed.all place d (omega arith) was)
          ];
    }

gate_next : (before now : List Logic) (words : List Move) (cell : Cell) (first second third fourth : Front) → now ≡ moved words before → fourth.is_stale ≡ false → IsFresh now cell fourth → second.output ≡ loaded_output before words cell first.output → third.output ≡ second.output
    → (is_gate cell ≡ false → fourth ≡ third) → fourth.output ≡ next_output before now cell first.output
gate_next before now words Outside first second third fourth is settled fresh loaded kept same = ap (λ (f : Front). f.output) (same refl) ∙ kept ∙ loaded
gate_next before now words (Flop d clock) first second third fourth is settled fresh loaded kept same =
    ap (λ (f : Front). f.output) (same refl) ∙ kept ∙ loaded ∙ ap (λ (vs : List Logic). flip_of first.output (value_at before clock) (value_at vs clock) (value_at before d)) (sym is)
gate_next before now words (Gate kind inputs) first second third fourth is settled fresh loaded kept same = elim fresh [
  | inl stale ↦ cc
  | inr output ↦ output
]

-- each place puts out what it is to put out next
pub outputs_in_the_end : (cells : List Cell) (rows : List (List ℕ)) (values now : List Logic) (words : List Move) (stale : List ℕ) (first second third fourth : List Front)
    → All (IsEdge cells) stale → now ≡ moved words values → AreFronts cells now fourth → AreSettled fourth → AreLoaded cells values words first second → AreTouched rows words second third → AreRefreshed stale third fourth
    → (place : ℕ) (d : Front) → place < length cells → (front_at d fourth place).output ≡ next_output values now (cell_at cells place) (front_at d first place).output
outputs_in_the_end cells rows values now words stale first second third fourth edges is fronts settled loaded touched refreshed place d h =
    let len : length second ≡ length first = loaded.same in
    let len' : length third ≡ length second = touched.same in
    let len'' : length fourth ≡ length third = refreshed.same in
    let len''' : length fourth ≡ length cells = fronts.same in
    let l : IsLoaded values words (cell_at cells place) (front_at d first place) (front_at d second place) = loaded.each place d (omega arith) in
    let k : IsKept (front_at d second place) (front_at d third place) = touched.kept place d (omega arith) in
    gate_next values now words (cell_at cells place) (front_at d first place) (front_at d second place) (front_at d third place) (front_at d fourth place) is (settled.each place d (omega arith)) (fronts.fresh place d h) l.output k.output
    (λ none. refreshed.others place d (omega arith) (elim (true_or_not (has_gate stale place)) [
      | inr isnt ↦ isnt
      | inl some ↦ (let gate : is_gate (cell_at cells place) ≡ true = listed_gate cells stale place edges some in cc)
    ]))

-- ---- what contracts see of it

pub nothing : Front
nothing = record { queue = 0; pins = record { bits = 0 }; kind = And; output = X; is_stale = false }

pub output-map : (fronts : List Front) (place : ℕ) → value_at (map (λ (f : Front). f.output) fronts) place ≡ (front_at nothing fronts place).output
unfolding nothing
output-map fronts place = get_or-map (λ (f : Front). f.output) fronts place nothing

pub queue-map : (fronts : List Front) (place : ℕ) → get_or (map (λ (f : Front). f.queue) fronts) place 0 ≡ (front_at nothing fronts place).queue
unfolding nothing
queue-map fronts place = get_or-map (λ (f : Front). f.queue) fronts place nothing

pub output_past : (fronts : List Front) (place : ℕ) → length fronts ≤ place → (front_at nothing fronts place).output ≡ X
unfolding nothing
output_past fronts place h = ap (λ (f : Front). f.output) (get_or_past fronts place nothing h)

-- what was written back is all
pub written_back : {A : Type 0} (old new : List A) (n : ℕ) → n ≡ length old → length new ≡ length old → take n (new ++ drop (length new) old) ≡ new
written_back old new n h k = take_at new (drop (length new) old) n (k ∙ sym h)

pub passed_next : (cells : List Cell) (before now : List Logic) (old new : List Front) → length old ≡ length cells → ArePassedOn cells before now old new → HaveNext (gates_of cells old before) (gates_of cells new now)
passed_next cells before now old new same passed place =
    let len : length new ≡ length old = passed.same in
    output-map new place
    ∙ elim (cases_lt place (length cells)) [
      | inl lt ↦ passed.next place nothing lt ∙ ap (next_output before now (cell_at cells place)) (sym (output-map old place))
      | inr ge ↦
          output_past new place (omega arith) ∙ sym (ap (λ (c : Cell). next_output before now c (value_at (map (λ (f : Front). f.output) old) place)) (get_or_past cells place Outside ge) ∙ output-map old place ∙ output_past old place (omega arith))
    ]

pub passed_puts : (cells : List Cell) (before now : List Logic) (old new : List Front) (first out : List Put) → AreTold old new first out → ArePut (gates_of cells old before) (gates_of cells new now) first out
passed_puts cells before now old new first out told =
    let len : length new ≡ length old = told.same in
    record {
      sent = told.sent;
      appended = told.appended;
      each = λ place.
          let want : put_of place (get_or (map (λ (f : Front). f.queue) old) place 0) (value_at (map (λ (f : Front). f.output) old) place) (value_at (map (λ (f : Front). f.output) new) place) ≡ put_of place (front_at nothing old place).queue (front_at nothing old place).output (front_at nothing new place).output =
          ap (λ (q : ℕ). put_of place q (value_at (map (λ (f : Front). f.output) old) place) (value_at (map (λ (f : Front). f.output) new) place)) (queue-map old place)
          ∙ ap (λ (v : Logic). put_of place (front_at nothing old place).queue v (value_at (map (λ (f : Front). f.output) new) place)) (output-map old place)
          ∙ ap (λ (v : Logic). put_of place (front_at nothing old place).queue (front_at nothing old place).output v) (output-map new place) in
          elim (cases_lt place (length old)) [
            | inl lt ↦ told.each place nothing lt ∙ sym want
            | inr ge ↦ told.past place ge ∙ sym (want ∙ ap (λ (v : Logic). put_of place (front_at nothing old place).queue v (front_at nothing new place).output) (output_past old place ge ∙ sym (output_past new place (omega arith))) ∙ put_of-itself place (front_at nothing old place).queue (front_at nothing new place).output)
          ];
    }

pub passed_queues : (old new : List Front) (first out : List Put) → AreTold old new first out → map (λ (f : Front). f.queue) new ≡ map (λ (f : Front). f.queue) old
passed_queues old new first out told =
    let len : length new ≡ length old = told.same in
    ext_get_or 0 (map (λ (f : Front). f.queue) new) (map (λ (f : Front). f.queue) old) (length-map new (λ (f : Front). f.queue) ∙ told.same ∙ sym (length-map old (λ (f : Front). f.queue)))
    (λ place h. let h' : place < length old = omega (arith, length-map new (λ (f : Front). f.queue)) in queue-map new place ∙ told.queues place nothing h' ∙ sym (queue-map old place))
