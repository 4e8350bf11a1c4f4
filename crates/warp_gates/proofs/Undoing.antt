-- Values are put back and gates follow them; flip-flops get their contents back.
use Rattle.std.proofs.Common.{◌≡◌, ◌≢◌, ◌∙◌, inl, inr, ℕ, ◌+◌, ◌-◌, ◌<◌, ◌≤◌, Bool, true, false, ◌&&◌, ◌||◌, not, cond, List, [], ◌∷◌, length, map, drop, get_or, set, refl, ap, sym, subst, arith}
use Rattle.std.proofs.lemmas.Bool.{cases_lt}
use Rattle.std.proofs.lemmas.List.{length-set, length-map, get_or-set_same, get_or-set_other, get_or_default, get_or_past, ext_get_or, drop_more}
use Rattle.gate_values.specs.declared.logic.Logic.{Logic}
use Rattle.warp_stores.specs.Words.{Move}
use Rattle.warp_gates.specs.declared.front.Front.{Front}
use Rattle.warp_gates.specs.Cells.{Cell, Outside, Gate, Flop, value_at, cell_at, unmoved, settled_output, restored_output, HaveSettled, HaveRestored}
use Rattle.warp_gates.specs.Inner.Fronts.{front_at, row_of, has_gate, reached, AreReaders, AreFronts, AreSettled, AreTouched, AreShown, IsShown, IsKept, IsFresh}
use Rattle.warp_gates.specs.Inner.Told.{AreRefreshed, all_edges, is_gate, is_flop}
use Rattle.warp_gates.specs.Shown.Held.{gates_of}
use Rattle.warp_gates.specs.Inner.Undoing.{AreQueuesKept, AreFollowing, outputs_of, IsRestored, AreRestored}
use Rattle.warp_gates.proofs.Showing.{same_or_not, eqb_same, eqb_other, value_at-set, or_true}
use Rattle.warp_gates.proofs.Moving.{true_or_not, either}
use Rattle.warp_gates.proofs.Evaluating.{showing_settled}
use Rattle.warp_gates.proofs.Steps.{nothing, output-map, output_past, queue-map, reached_gate, reached-edges}

pub length-unmoved : (words : List Move) (values : List Logic) → length (unmoved words values) ≡ length values
length-unmoved [] values = refl
length-unmoved (w ∷ ws) values = length-set (unmoved ws values) w.place w.before ∙ length-unmoved ws values

-- one word more from the end
pub drop_back : (words : List Move) (left : ℕ) (w : Move) → 0 < left → left ≤ length words → w ≡ get_or words (left - 1) w → drop (left - 1) words ≡ w ∷ drop left words
drop_back words left w some within is =
    let back : left - 1 + 1 ≡ left = omega arith in
    drop_more words (left - 1) w (omega arith) ∙ ap (λ (x : Move). x ∷ drop (left - 1 + 1) words) (sym is) ∙ ap (λ (n : ℕ). w ∷ drop n words) back

-- a word before those that were taken back
pub touched_before : (rows : List (List ℕ)) (words : List Move) (w : Move) (v : Logic) (old mid new : List Front) → AreTouched rows words old mid → AreShown (row_of rows w.place) v mid new → AreTouched rows (w ∷ words) old new
touched_before rows words w v old mid new touched shown =
    let same : length mid ≡ length old = touched.same in
    record {
      same = shown.same ∙ touched.same;
      kept = λ place d h.
          let before : IsKept (front_at d old place) (front_at d mid place) = touched.kept place d h in
          let after : IsShown (row_of rows w.place) v place (front_at d mid place) (front_at d new place) = shown.each place d (omega arith) in
          record { queue = after.queue ∙ before.queue; kind = after.kind ∙ before.kind; output = after.output ∙ before.output };
      stale = λ place d h s.
          let after : IsShown (row_of rows w.place) v place (front_at d mid place) (front_at d new place) = shown.each place d (omega arith) in
          elim (either (front_at d mid place).is_stale (has_gate (row_of rows w.place) place) (sym after.stale ∙ s)) [
            | inl was ↦ elim (touched.stale place d h was) [
              | inl first ↦ inl first
              | inr before ↦ inr (ap (λ (b : Bool). has_gate (row_of rows w.place) place || b) before ∙ or_true (has_gate (row_of rows w.place) place))
            ]
            | inr here ↦ inr (ap (λ (b : Bool). b || reached rows words place) here)
          ];
    }

-- ---- queues

pub queues_same : (fronts : List Front) → AreQueuesKept fronts fronts
queues_same fronts = record { same = refl; each = λ place d h. refl }

pub queues_set : (now : List Front) (place : ℕ) (e g : Front) → place < length now → g.queue ≡ (front_at e now place).queue → AreQueuesKept now (set now place g)
queues_set now place e g within queue =
    record {
      same = length-set now place g;
      each = λ p d h. elim (same_or_not p place) [
        | inl here ↦
            ap (λ (i : ℕ). (front_at d (set now place g) i).queue) here ∙ ap (λ (x : Front). x.queue) (get_or-set_same now place g d within) ∙ queue
            ∙ ap (λ (x : Front). x.queue) (get_or_default now place e d within) ∙ ap (λ (i : ℕ). (front_at d now i).queue) (sym here)
        | inr there ↦ ap (λ (x : Front). x.queue) (get_or-set_other now place p g d there)
      ];
    }

pub queues_then : (old mid new : List Front) → AreQueuesKept old mid → AreQueuesKept mid new → AreQueuesKept old new
queues_then old mid new first second =
    let len : length mid ≡ length old = first.same in
    record {
      same = second.same ∙ first.same;
      each = λ p d h. second.each p d (omega arith) ∙ first.each p d h;
    }

pub queues_map : (old new : List Front) → AreQueuesKept old new → map (λ (f : Front). f.queue) new ≡ map (λ (f : Front). f.queue) old
queues_map old new kept =
    let len : length new ≡ length old = kept.same in
    ext_get_or 0 (map (λ (f : Front). f.queue) new) (map (λ (f : Front). f.queue) old) (length-map new (λ (f : Front). f.queue) ∙ kept.same ∙ sym (length-map old (λ (f : Front). f.queue)))
    (λ place h. let h' : place < length old = omega (arith, length-map new (λ (f : Front). f.queue)) in queue-map new place ∙ kept.each place nothing h' ∙ sym (queue-map old place))

-- ---- values are put back

-- no place is stale once the gates that were shown something are evaluated
pub settled_after : (rows : List (List ℕ)) (words : List Move) (first second third : List Front)
    → AreSettled first → AreTouched rows words first second → AreRefreshed (all_edges rows words) second third → AreSettled third
settled_after rows words first second third settled touched refreshed =
    let len : length second ≡ length first = touched.same in
    let len' : length third ≡ length second = refreshed.same in
    record {
      each = λ place d h.
          let now : (front_at d third place).is_stale ≡ ((front_at d second place).is_stale && not (has_gate (all_edges rows words) place)) = refreshed.stale place d (omega arith) in
          elim (true_or_not (front_at d second place).is_stale) [
            | inr fresh ↦ now ∙ ap (λ (b : Bool). b && not (has_gate (all_edges rows words) place)) fresh
            | inl stale ↦ elim (touched.stale place d (omega arith) stale) [
              | inl was ↦ (let fresh : (front_at d first place).is_stale ≡ false = settled.each place d (omega arith) in cc)
              | inr reach ↦
                  now ∙ ap (λ (b : Bool). b && not (has_gate (all_edges rows words) place)) stale ∙ ap (λ (b : Bool). true && not b) (reached-edges rows words place ∙ reach)
            ]
          ];
    }

follow_one : (now : List Logic) (cell : Cell) (first second third : Front) → third.is_stale ≡ false → IsFresh now cell third → second.output ≡ first.output → (is_gate cell ≡ false → third ≡ second) → third.output ≡ settled_output now cell first.output
follow_one now Outside first second third settled fresh kept same = ap (λ (f : Front). f.output) (same refl) ∙ kept
follow_one now (Flop d clock) first second third settled fresh kept same = ap (λ (f : Front). f.output) (same refl) ∙ kept
follow_one now (Gate kind inputs) first second third settled fresh kept same = elim fresh [
  | inl stale ↦ cc
  | inr output ↦ output
]

pub following : (cells : List Cell) (rows : List (List ℕ)) (now : List Logic) (words : List Move) (first second third : List Front)
    → AreReaders cells rows → length first ≡ length cells → AreFronts cells now third → AreSettled third → AreTouched rows words first second → AreRefreshed (all_edges rows words) second third → AreQueuesKept second third
    → AreFollowing cells now first third
following cells rows now words first second third readers many fronts settled touched refreshed queues =
    let len : length second ≡ length first = touched.same in
    let len' : length third ≡ length second = refreshed.same in
    record {
      queues = record {
        same = refreshed.same ∙ touched.same;
        each = λ place d h. let k : IsKept (front_at d first place) (front_at d second place) = touched.kept place d h in queues.each place d (omega arith) ∙ k.queue;
      };
      each = λ place d h.
          let k : IsKept (front_at d first place) (front_at d second place) = touched.kept place d (omega arith) in
          follow_one now (cell_at cells place) (front_at d first place) (front_at d second place) (front_at d third place) (settled.each place d (omega arith)) (fronts.fresh place d h) k.output
          (λ none. refreshed.others place d (omega arith) (elim (true_or_not (has_gate (all_edges rows words) place)) [
            | inr isnt ↦ isnt
            | inl some ↦ (let gate : is_gate (cell_at cells place) ≡ true = reached_gate cells rows words place readers (sym (reached-edges rows words place) ∙ some) in cc)
          ]));
    }

pub have_settled : (cells : List Cell) (before now : List Logic) (old new : List Front) → length old ≡ length cells → AreFollowing cells now old new → HaveSettled (gates_of cells old before) (gates_of cells new now)
have_settled cells before now old new same follow place =
    let len : length new ≡ length old = follow.queues.same in
    output-map new place
    ∙ elim (cases_lt place (length cells)) [
      | inl lt ↦ follow.each place nothing lt ∙ ap (settled_output now (cell_at cells place)) (sym (output-map old place))
      | inr ge ↦
          output_past new place (omega arith) ∙ sym (ap (λ (c : Cell). settled_output now c (value_at (map (λ (f : Front). f.output) old) place)) (get_or_past cells place Outside ge) ∙ output-map old place ∙ output_past old place (omega arith))
    ]

-- ---- contents are given back

restored_same : (cell : Cell) (f : Front) → restored_output cell f.output f.output ≡ f.output
restored_same Outside f = refl
restored_same (Gate kind inputs) f = refl
restored_same (Flop d clock) f = refl

output_at : (fronts : List Front) (place : ℕ) (d : Front) → place < length fronts → value_at (outputs_of fronts) place ≡ (front_at d fronts place).output
output_at fronts place d h = output-map fronts place ∙ ap (λ (f : Front). f.output) (get_or_default fronts place nothing d h)

pub restored_none : (cells : List Cell) (fronts : List Front) → AreRestored cells [] fronts fronts
restored_none cells fronts =
    record {
      same = refl;
      each = λ place d h. record {
        queue = refl;
        kind = refl;
        pins = refl;
        stale = refl;
        output = sym (ap (λ (v : Logic). restored_output (cell_at cells place) v (front_at d fronts place).output) (output_at fronts place d h) ∙ restored_same (cell_at cells place) (front_at d fronts place));
      };
    }

-- another told value changes nothing of what is no flip-flop
told_other : (cell : Cell) (a b last : Logic) → is_flop cell ≡ false → restored_output cell a last ≡ restored_output cell b last
told_other Outside a b last h = refl
told_other (Gate kind inputs) a b last h = refl
told_other (Flop d clock) a b last h = cc

told_flop : (cell : Cell) (a last : Logic) → is_flop cell ≡ true → restored_output cell a last ≡ a
told_flop Outside a last h = cc
told_flop (Gate kind inputs) a last h = cc
told_flop (Flop d clock) a last h = refl

-- the word before, of another place
restored_word : (cells : List Cell) (w : Move) (words : List Move) (old : List Front) (place : ℕ) (f g : Front) → w.place < length old → place ≢ w.place
    → IsRestored (cell_at cells place) (value_at (unmoved words (outputs_of old)) place) f g → IsRestored (cell_at cells place) (value_at (unmoved (w ∷ words) (outputs_of old)) place) f g
restored_word cells w words old place f g within other h =
    let many : length (unmoved words (outputs_of old)) ≡ length old = length-unmoved words (outputs_of old) ∙ length-map old (λ (x : Front). x.output) in
    record {
      queue = h.queue;
      kind = h.kind;
      pins = h.pins;
      stale = h.stale;
      output = h.output ∙ ap (λ (v : Logic). restored_output (cell_at cells place) v f.output)
          (sym (value_at-set (unmoved words (outputs_of old)) w.place place w.before (omega arith) ∙ ap (λ (b : Bool). cond b w.before (value_at (unmoved words (outputs_of old)) place)) (eqb_other place w.place other)));
    }

-- the word before, of what is no flip-flop
pub restored_not : (cells : List Cell) (w : Move) (words : List Move) (old now : List Front) → w.place < length now → is_flop (cell_at cells w.place) ≡ false → AreRestored cells words old now → AreRestored cells (w ∷ words) old now
restored_not cells w words old now within none restored =
    let len : length now ≡ length old = restored.same in
    record {
      same = restored.same;
      each = λ place d h.
          let r : IsRestored (cell_at cells place) (value_at (unmoved words (outputs_of old)) place) (front_at d old place) (front_at d now place) = restored.each place d h in
          elim (same_or_not place w.place) [
            | inl here ↦ record {
              queue = r.queue;
              kind = r.kind;
              pins = r.pins;
              stale = r.stale;
              output = r.output ∙ told_other (cell_at cells place) (value_at (unmoved words (outputs_of old)) place) (value_at (unmoved (w ∷ words) (outputs_of old)) place) (front_at d old place).output (ap (λ (p : ℕ). is_flop (cell_at cells p)) here ∙ none);
            }
            | inr there ↦ restored_word cells w words old place (front_at d old place) (front_at d now place) (omega arith) there r
          ];
    }

-- the word before, of a flip-flop
pub restored_flop : (cells : List Cell) (w : Move) (words : List Move) (old now : List Front) (e g : Front) → w.place < length now → is_flop (cell_at cells w.place) ≡ true → g ≡ record (front_at e now w.place) { output = w.before }
    → AreRestored cells words old now → AreRestored cells (w ∷ words) old (set now w.place g)
restored_flop cells w words old now e g within flop is restored =
    let len : length now ≡ length old = restored.same in
    let many : length (unmoved words (outputs_of old)) ≡ length old = length-unmoved words (outputs_of old) ∙ length-map old (λ (x : Front). x.output) in
    record {
      same = length-set now w.place g ∙ restored.same;
      each = λ place d h.
          let r : IsRestored (cell_at cells place) (value_at (unmoved words (outputs_of old)) place) (front_at d old place) (front_at d now place) = restored.each place d h in
          elim (same_or_not place w.place) [
            | inl here ↦
                let at : front_at d (set now w.place g) place ≡ record (front_at e now w.place) { output = w.before } = ap (λ (i : ℕ). front_at d (set now w.place g) i) here ∙ get_or-set_same now w.place g d within ∙ is in
                let was : front_at e now w.place ≡ front_at d now place = get_or_default now w.place e d within ∙ ap (λ (i : ℕ). front_at d now i) (sym here) in
                let told : value_at (unmoved (w ∷ words) (outputs_of old)) place ≡ w.before =
                value_at-set (unmoved words (outputs_of old)) w.place place w.before (omega arith) ∙ ap (λ (b : Bool). cond b w.before (value_at (unmoved words (outputs_of old)) place)) (eqb_same place w.place here) in
                record {
                  queue = ap (λ (x : Front). x.queue) at ∙ ap (λ (x : Front). x.queue) was ∙ r.queue;
                  kind = ap (λ (x : Front). x.kind) at ∙ ap (λ (x : Front). x.kind) was ∙ r.kind;
                  pins = ap (λ (x : Front). x.pins) at ∙ ap (λ (x : Front). x.pins) was ∙ r.pins;
                  stale = ap (λ (x : Front). x.is_stale) at ∙ ap (λ (x : Front). x.is_stale) was ∙ r.stale;
                  output = ap (λ (x : Front). x.output) at ∙ sym told ∙ sym (told_flop (cell_at cells place) (value_at (unmoved (w ∷ words) (outputs_of old)) place) (front_at d old place).output (ap (λ (p : ℕ). is_flop (cell_at cells p)) here ∙ flop));
                }
            | inr there ↦
                subst (λ (x : Front). IsRestored (cell_at cells place) (value_at (unmoved (w ∷ words) (outputs_of old)) place) (front_at d old place) x) (sym (get_or-set_other now w.place place g d there))
                (restored_word cells w words old place (front_at d old place) (front_at d now place) (omega arith) there r)
          ];
    }

-- the same, as calls tell it
pub restored_call : (cells : List Cell) (w : Move) (words : List Move) (old now : List Front) (e : Front) (place : ℕ) (before : Logic) → place ≡ w.place → before ≡ w.before → w.place < length now → is_flop (cell_at cells place) ≡ true
    → AreRestored cells words old now → AreRestored cells (w ∷ words) old (set now place (record (front_at e now place) { output = before }))
restored_call cells w words old now e place before at told within flop restored =
    subst (λ (p : ℕ). AreRestored cells (w ∷ words) old (set now p (record (front_at e now p) { output = before }))) (sym at)
    (restored_flop cells w words old now e (record (front_at e now w.place) { output = before }) within (ap (λ (p : ℕ). is_flop (cell_at cells p)) (sym at) ∙ flop) (ap (λ (v : Logic). record (front_at e now w.place) { output = v }) told) restored)

fresh_restored : (values : List Logic) (cell : Cell) (told : Logic) (f g : Front) → IsRestored cell told f g → IsFresh values cell f → IsFresh values cell g
fresh_restored values Outside told f g r h = tt
fresh_restored values (Flop d clock) told f g r h = tt
fresh_restored values (Gate kind inputs) told f g r h = elim h [
  | inl stale ↦ inl (r.stale ∙ stale)
  | inr output ↦ inr (r.output ∙ output)
]

pub fronts_restored : (cells : List Cell) (values : List Logic) (words : List Move) (old new : List Front) → AreFronts cells values old → AreRestored cells words old new → AreFronts cells values new
fronts_restored cells values words old new fronts restored =
    let len : length old ≡ length cells = fronts.same in
    record {
      same = restored.same ∙ fronts.same;
      showing = λ place d h.
          let r : IsRestored (cell_at cells place) (value_at (unmoved words (outputs_of old)) place) (front_at d old place) (front_at d new place) = restored.each place d (omega arith) in
          showing_settled values (cell_at cells place) (front_at d old place) (front_at d new place) r.kind r.pins (fronts.showing place d h);
      fresh = λ place d h.
          fresh_restored values (cell_at cells place) (value_at (unmoved words (outputs_of old)) place) (front_at d old place) (front_at d new place) (restored.each place d (omega arith)) (fronts.fresh place d h);
    }

pub settled_restored : (cells : List Cell) (words : List Move) (old new : List Front) → AreSettled old → AreRestored cells words old new → AreSettled new
settled_restored cells words old new settled restored =
    let len : length new ≡ length old = restored.same in
    record {
      each = λ place d h.
          let r : IsRestored (cell_at cells place) (value_at (unmoved words (outputs_of old)) place) (front_at d old place) (front_at d new place) = restored.each place d (omega arith) in
          r.stale ∙ settled.each place d (omega arith);
    }

pub queues_restored : (cells : List Cell) (words : List Move) (old new : List Front) → AreRestored cells words old new → AreQueuesKept old new
queues_restored cells words old new restored =
    record {
      same = restored.same;
      each = λ place d h.
          let r : IsRestored (cell_at cells place) (value_at (unmoved words (outputs_of old)) place) (front_at d old place) (front_at d new place) = restored.each place d h in
          r.queue;
    }

pub have_restored : (cells : List Cell) (values : List Logic) (words : List Move) (old new : List Front) → length old ≡ length cells → AreRestored cells words old new → HaveRestored words (gates_of cells old values) (gates_of cells new values)
have_restored cells values words old new same restored place =
    let len : length new ≡ length old = restored.same in
    let told : Logic = value_at (unmoved words (outputs_of old)) place in
    output-map new place
    ∙ elim (cases_lt place (length cells)) [
      | inl lt ↦
          let r : IsRestored (cell_at cells place) told (front_at nothing old place) (front_at nothing new place) = restored.each place nothing (omega arith) in
          r.output ∙ ap (restored_output (cell_at cells place) told) (sym (output-map old place))
      | inr ge ↦
          output_past new place (omega arith) ∙ sym (ap (λ (c : Cell). restored_output c told (value_at (outputs_of old) place)) (get_or_past cells place Outside ge) ∙ output-map old place ∙ output_past old place (omega arith))
    ]
