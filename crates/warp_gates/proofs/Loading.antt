-- Flip-flops load, one after the other.
use Rattle.std.proofs.Common.{◌≡◌, ◌≢◌, ◌∙◌, ◌⊎◌, inl, inr, ℕ, suc, ◌<◌, Bool, true, false, ◌||◌, eqb, cond, List, [], ◌∷◌, ◌++◌, length, take, get_or, set, refl, ap, sym, subst, arith}
use borrow.Author.Tests.{eqb-true}
use Rattle.std.specs.List.{All}
use Rattle.std.proofs.lemmas.Bool.{cases_lt}
use Rattle.std.proofs.lemmas.List.{get_or-set_other, get_or_default, get_or_past, get_or-take, length-take-le}
use Rattle.gate_values.specs.declared.logic.Logic.{Logic}
use Rattle.gate_values.specs.declared.logic.Logic.TheVariants.{Zero, One, X, Z}
use Rattle.gate_values.specs.Tables.{flip_of, kept, passed}
use Rattle.warp_stores.specs.Words.{Move}
use Rattle.warp_gates.specs.declared.front.Front.{Front}
use Rattle.warp_gates.specs.declared.put.Put.{Put}
use Rattle.warp_gates.specs.Cells.{Cell, Outside, Gate, Flop, AreApart, IsCell, value_at, cell_at, moved, put_of}
use Rattle.warp_gates.specs.Inner.Fronts.{front_at, has, row_of, is_clocked_by, AreClocked}
use Rattle.warp_gates.specs.Inner.Told.{AreTold, is_flop, data_of}
use Rattle.warp_gates.specs.Inner.Loading.{IsFlipped, AreFlipped, IsLoaded, AreLoaded, loaded_output, MayLoad, StillPutOut}
use Rattle.warp_gates.proofs.Showing.{same_or_not, eqb_same, eqb_other, has-append, value_at-set, or_false}
use Rattle.warp_gates.proofs.Moving.{moved-append, length-moved}
use Rattle.warp_gates.proofs.Telling.{told_more}
use Rattle.warp_gates.proofs.Evaluating.{has_get_or}

kept_twice : (c v : Logic) → kept (kept c v) v ≡ kept c v
kept_twice Zero Zero = refl
kept_twice Zero One = refl
kept_twice Zero X = refl
kept_twice Zero Z = refl
kept_twice One Zero = refl
kept_twice One One = refl
kept_twice One X = refl
kept_twice One Z = refl
kept_twice X v = refl
kept_twice Z v = refl

-- to load twice is to load once
pub flip_twice : (c b a d : Logic) → flip_of (flip_of c b a d) b a d ≡ flip_of c b a d
unfolding flip_of
flip_twice c Zero Zero d = refl
flip_twice c Zero One d = refl
flip_twice c Zero X d = kept_twice c (passed d)
flip_twice c Zero Z d = kept_twice c (passed d)
flip_twice c One Zero d = refl
flip_twice c One One d = refl
flip_twice c One X d = refl
flip_twice c One Z d = refl
flip_twice c X Zero d = refl
flip_twice c X One d = kept_twice c (passed d)
flip_twice c X X d = refl
flip_twice c X Z d = refl
flip_twice c Z Zero d = refl
flip_twice c Z One d = kept_twice c (passed d)
flip_twice c Z X d = refl
flip_twice c Z Z d = refl

-- a clock that stays loads nothing
pub flip_still : (c b d : Logic) → flip_of c b b d ≡ c
unfolding flip_of
flip_still c Zero d = refl
flip_still c One d = refl
flip_still c X d = refl
flip_still c Z d = refl

pub data_within : (cell : Cell) (end : ℕ) → IsCell end cell → is_flop cell ≡ true → data_of cell < end
data_within Outside end h flop = cc
data_within (Gate kind inputs) end h flop = cc
data_within (Flop d clock) end h flop = h.0

-- one flip-flop, as a call tells it
pub told_loaded : (cells : List Cell) (values : List Logic) (before after : Logic) (old now : List Front) (first out out' : List Put) (flop : ℕ) (e g : Front) (content : Logic) (input : ℕ) (v : Logic)
    → AreTold old now first out → flop < length now → MayLoad cells values before after flop old now → input ≡ data_of (cell_at cells flop) → data_of (cell_at cells flop) < length values
    → content ≡ flip_of (front_at e now flop).output before after (get_or values input v)
    → g ≡ record (front_at e now flop) { output = content; is_stale = false } → out' ≡ out ++ put_of flop (front_at e now flop).queue (front_at e now flop).output content
    → AreTold old (set now flop g) first out'
told_loaded cells values before after old now first out out' flop e g content input v told within may at small was front puts =
    let read : get_or values input v ≡ value_at values (data_of (cell_at cells flop)) = ap (λ (i : ℕ). get_or values i v) at ∙ get_or_default values (data_of (cell_at cells flop)) v X small in
    let is : content ≡ flip_of (front_at e now flop).output before after (value_at values (data_of (cell_at cells flop))) = was ∙ ap (flip_of (front_at e now flop).output before after) read in
    let may' : ((front_at e now flop).output ≡ (front_at e old flop).output) ⊎ (content ≡ (front_at e now flop).output) = elim (may e) [
      | inl still ↦ inl still
      | inr again ↦ inr (is ∙ again)
    ] in
    subst (λ (x : Front). AreTold old (set now flop x) first out') (sym front)
    (subst (λ (ps : List Put). AreTold old (set now flop (record (front_at e now flop) { output = content; is_stale = false })) first ps) (sym puts)
    (told_more old now first out flop e content told within may'))

flipped_front : (values : List Logic) (before after : Logic) (cell : Cell) (place : ℕ) (f : Front) → IsFlipped [] values before after cell place f f
flipped_front values before after cell place f = record { queue = refl; kind = refl; pins = refl; output = refl; fresh = λ h. h }

pub flipped_none : (cells : List Cell) (values : List Logic) (before after : Logic) (fronts : List Front) → AreFlipped cells [] values before after fronts fronts
flipped_none cells values before after fronts = record { same = refl; each = λ place d h. flipped_front values before after (cell_at cells place) place (front_at d fronts place) }

-- no flip-flop loads where the clock's change is no edge
pub flipped_still : (cells : List Cell) (flops : List ℕ) (values : List Logic) (before after : Logic) (fronts : List Front) → ((content input : Logic) → flip_of content before after input ≡ content) → AreFlipped cells flops values before after fronts fronts
flipped_still cells flops values before after fronts still =
    let same_either : (b : Bool) (o d : Logic) → o ≡ cond b (flip_of o before after d) o = λ b o d. elim b as (λ c. o ≡ cond c (flip_of o before after d) o) [ true ↦ sym (still o d) | false ↦ refl ] in
    record {
      same = refl;
      each = λ place d h. record { queue = refl; kind = refl; pins = refl; output = same_either (has flops place) (front_at d fronts place).output (value_at values (data_of (cell_at cells place))); fresh = λ f. f };
    }

join : (a b : Bool) (o before after d p q : Logic) → p ≡ cond a (flip_of o before after d) o → q ≡ cond b (flip_of p before after d) p → q ≡ cond (a || b) (flip_of o before after d) o
join true true o before after d p q first second = second ∙ ap (λ (v : Logic). flip_of v before after d) first ∙ flip_twice o before after d
join true false o before after d p q first second = second ∙ first
join false true o before after d p q first second = second ∙ ap (λ (v : Logic). flip_of v before after d) first
join false false o before after d p q first second = second ∙ first

-- one flip-flop more
pub flipped_more : (cells : List Cell) (flops : List ℕ) (flop : ℕ) (values : List Logic) (before after : Logic) (old mid new : List Front)
    → AreFlipped cells flops values before after old mid → AreFlipped cells (flop ∷ []) values before after mid new → AreFlipped cells (flops ++ flop ∷ []) values before after old new
flipped_more cells flops flop values before after old mid new first second =
    let len : length mid ≡ length old = first.same in
    record {
      same = second.same ∙ first.same;
      each = λ place d h.
          let a : IsFlipped flops values before after (cell_at cells place) place (front_at d old place) (front_at d mid place) = first.each place d h in
          let b : IsFlipped (flop ∷ []) values before after (cell_at cells place) place (front_at d mid place) (front_at d new place) = second.each place d (omega arith) in
          let input : Logic = value_at values (data_of (cell_at cells place)) in
          record {
            queue = b.queue ∙ a.queue;
            kind = b.kind ∙ a.kind;
            pins = b.pins ∙ a.pins;
            output =
                join (has flops place) (has (flop ∷ []) place) (front_at d old place).output before after input (front_at d mid place).output (front_at d new place).output a.output b.output
                ∙ ap (λ (c : Bool). cond c (flip_of (front_at d old place).output before after input) (front_at d old place).output) (ap (λ (c : Bool). has flops place || c) (or_false (eqb flop place)) ∙ sym (has-append flops flop place));
            fresh = λ f. b.fresh (a.fresh f);
          };
    }

-- a flip-flop of a row may load, whether it has or not
pub may_load : (cells : List Cell) (done flops : List ℕ) (flop : ℕ) (values : List Logic) (before after : Logic) (old start now : List Front)
    → flop < length old → flop < length start → has flops flop ≡ true → StillPutOut flops old start → AreFlipped cells done values before after start now → MayLoad cells values before after flop old now
may_load cells done flops flop values before after old start now within within' member still flipped d =
    let f : IsFlipped done values before after (cell_at cells flop) flop (front_at d start flop) (front_at d now flop) = flipped.each flop d within' in
    let input : Logic = value_at values (data_of (cell_at cells flop)) in
    go (has done flop) (front_at d start flop).output (front_at d now flop).output (front_at d old flop).output before after input f.output (still flop d within member)
  where
    go : (b : Bool) (s n o before after input : Logic) → n ≡ cond b (flip_of s before after input) s → s ≡ o → (n ≡ o) ⊎ (flip_of n before after input ≡ n)
    go true s n o before after input is same = inr (ap (λ (v : Logic). flip_of v before after input) is ∙ flip_twice s before after input ∙ sym is)
    go false s n o before after input is same = inl (is ∙ same)

-- ---- word by word

-- the value of a place that no word is of
pub moved_other : (words : List Move) (values : List Logic) (place : ℕ) → ((i : ℕ) (d : Move) → i < length words → (get_or words i d).place ≢ place) → value_at (moved words values) place ≡ value_at values place
moved_other [] values place other = refl
moved_other (w ∷ ws) values place other =
    moved_other ws (set values w.place w.after) place (λ i d h. other (suc i) d (omega arith))
    ∙ get_or-set_other values w.place place w.after X (λ e. other 0 w (omega arith) (sym e))

clocked_here : (cell : Cell) (place : ℕ) → is_clocked_by place cell ≡ true → is_flop cell ≡ true
clocked_here Outside place h = h
clocked_here (Gate kind inputs) place h = h
clocked_here (Flop d clock) place h = refl

-- what a cell holds after one word more: its output now, after the words before, and after this one
output_step : (values : List Logic) (done : List Move) (w : Move) (cell : Cell) (first mid new : Logic) → value_at (moved done values) w.place ≡ value_at values w.place → w.place < length values
    → mid ≡ loaded_output values done cell first
    → new ≡ cond (is_clocked_by w.place cell) (flip_of mid (value_at values w.place) w.after (value_at values (data_of cell))) mid
    → new ≡ loaded_output values (done ++ w ∷ []) cell first
output_step values done w Outside first mid new still within before now = now ∙ before
output_step values done w (Gate kind inputs) first mid new still within before now = now ∙ before
output_step values done w (Flop d clock) first mid new still within before now =
    let moved-is : value_at (moved (done ++ w ∷ []) values) clock ≡ cond (eqb clock w.place) w.after (value_at (moved done values) clock) =
    ap (λ (vs : List Logic). value_at vs clock) (moved-append done w values) ∙ value_at-set (moved done values) w.place clock w.after (subst (λ (n : ℕ). w.place < n) (sym (length-moved done values)) within) in
    elim (same_or_not clock w.place) [
      | inl same ↦
          let at : value_at values clock ≡ value_at values w.place = ap (value_at values) same in
          let mid-is : mid ≡ first =
          before
          ∙ ap (λ (v : Logic). flip_of first (value_at values clock) v (value_at values d)) (ap (value_at (moved done values)) same ∙ still ∙ sym at)
          ∙ flip_still first (value_at values clock) (value_at values d) in
          now ∙ ap (λ (b : Bool). cond b (flip_of mid (value_at values w.place) w.after (value_at values d)) mid) (eqb_same clock w.place same)
          ∙ ap (λ (v : Logic). flip_of v (value_at values w.place) w.after (value_at values d)) mid-is
          ∙ ap (λ (v : Logic). flip_of first v w.after (value_at values d)) (sym at)
          ∙ ap (λ (v : Logic). flip_of first (value_at values clock) v (value_at values d)) (sym (moved-is ∙ ap (λ (b : Bool). cond b w.after (value_at (moved done values) clock)) (eqb_same clock w.place same)))
      | inr other ↦
          now ∙ ap (λ (b : Bool). cond b (flip_of mid (value_at values w.place) w.after (value_at values d)) mid) (eqb_other clock w.place other)
          ∙ before
          ∙ ap (λ (v : Logic). flip_of first (value_at values clock) v (value_at values d)) (sym (moved-is ∙ ap (λ (b : Bool). cond b w.after (value_at (moved done values) clock)) (eqb_other clock w.place other)))
    ]

pub loaded_none : (cells : List Cell) (values : List Logic) (fronts : List Front) → ((place : ℕ) (d : Front) → place < length fronts → (front_at d fronts place).is_stale ≡ false) → AreLoaded cells values [] fronts fronts
loaded_none cells values fronts fresh =
    record { same = refl; each = λ place d h. record { queue = refl; kind = refl; pins = refl; output = first (cell_at cells place) (front_at d fronts place).output; fresh = fresh place d h } }
  where
    first : (cell : Cell) (v : Logic) → v ≡ loaded_output values [] cell v
    first Outside v = refl
    first (Gate kind inputs) v = refl
    first (Flop d clock) v = sym (flip_still v (value_at values clock) (value_at values d))

pub loaded_more : (cells : List Cell) (rows : List (List ℕ)) (values : List Logic) (done : List Move) (w : Move) (old mid new : List Front)
    → AreClocked cells rows → value_at (moved done values) w.place ≡ value_at values w.place → w.place < length values
    → AreLoaded cells values done old mid → AreFlipped cells (row_of rows w.place) values (value_at values w.place) w.after mid new → AreLoaded cells values (done ++ w ∷ []) old new
loaded_more cells rows values done w old mid new clocked still within loaded flipped =
    let len : length mid ≡ length old = loaded.same in
    record {
      same = flipped.same ∙ loaded.same;
      each = λ place d h.
          let a : IsLoaded values done (cell_at cells place) (front_at d old place) (front_at d mid place) = loaded.each place d h in
          let b : IsFlipped (row_of rows w.place) values (value_at values w.place) w.after (cell_at cells place) place (front_at d mid place) (front_at d new place) = flipped.each place d (omega arith) in
          record {
            queue = b.queue ∙ a.queue;
            kind = b.kind ∙ a.kind;
            pins = b.pins ∙ a.pins;
            output = output_step values done w (cell_at cells place) (front_at d old place).output (front_at d mid place).output (front_at d new place).output still within a.output
                (b.output ∙ ap (λ (c : Bool). cond c (flip_of (front_at d mid place).output (value_at values w.place) w.after (value_at values (data_of (cell_at cells place)))) (front_at d mid place).output) (clocked.each w.place place));
            fresh = b.fresh a.fresh;
          };
    }

-- the flip-flops of a clock that hasn't changed yet put out what they did at first
still_out : (values : List Logic) (done : List Move) (place : ℕ) (cell : Cell) (first mid : Logic) → value_at (moved done values) place ≡ value_at values place → mid ≡ loaded_output values done cell first → is_clocked_by place cell ≡ true → mid ≡ first
still_out values done place Outside first mid still h clocked = h
still_out values done place (Gate kind inputs) first mid still h clocked = h
still_out values done place (Flop d clock) first mid still h clocked =
    let same : clock ≡ place = eqb-true clock place clocked in
    h ∙ ap (λ (v : Logic). flip_of first (value_at values clock) v (value_at values d)) (ap (value_at (moved done values)) same ∙ still ∙ ap (value_at values) (sym same)) ∙ flip_still first (value_at values clock) (value_at values d)

pub still_put_out : (cells : List Cell) (rows : List (List ℕ)) (values : List Logic) (done : List Move) (place : ℕ) (old mid : List Front)
    → AreClocked cells rows → value_at (moved done values) place ≡ value_at values place → AreLoaded cells values done old mid → StillPutOut (row_of rows place) old mid
still_put_out cells rows values done place old mid clocked still loaded flop d h member =
    still_out values done place (cell_at cells flop) (front_at d old flop).output (front_at d mid flop).output still (loaded.each flop d h).output (sym (clocked.each place flop) ∙ member)

-- what a row has are flip-flops, at places
pub are_flops : (cells : List Cell) (rows : List (List ℕ)) (place : ℕ) → AreClocked cells rows → All (λ flop. is_flop (cell_at cells flop) ≡ true) (row_of rows place)
are_flops cells rows place clocked k d h =
    clocked_here (cell_at cells (get_or (row_of rows place) k d)) place (sym (clocked.each place (get_or (row_of rows place) k d)) ∙ has_get_or (row_of rows place) k d h)

flop_within : (cells : List Cell) (flop : ℕ) → is_flop (cell_at cells flop) ≡ true → flop < length cells
flop_within cells flop h =
    elim (cases_lt flop (length cells)) [
      | inl lt ↦ lt
      | inr ge ↦ (let none : is_flop (cell_at cells flop) ≡ false = ap is_flop (get_or_past cells flop Outside ge) in cc)
    ]

pub flops_within : (cells : List Cell) (rows : List (List ℕ)) (place : ℕ) → AreClocked cells rows → All (λ flop. flop < length cells) (row_of rows place)
flops_within cells rows place clocked k d h = flop_within cells (get_or (row_of rows place) k d) (are_flops cells rows place clocked k d h)

-- the same, as calls tell it
pub loaded_call : (cells : List Cell) (rows : List (List ℕ)) (values : List Logic) (done : List Move) (w : Move) (old mid new : List Front) (place : ℕ) (e after : Logic) (row : List ℕ)
    → place ≡ w.place → row ≡ get_or rows place [] → after ≡ w.after → AreClocked cells rows → value_at (moved done values) w.place ≡ value_at values w.place → w.place < length values
    → AreLoaded cells values done old mid → AreFlipped cells row values (get_or values place e) after mid new → AreLoaded cells values (done ++ w ∷ []) old new
loaded_call cells rows values done w old mid new place e after row at row-is after-is clocked still within loaded flipped =
    let before-is : get_or values place e ≡ value_at values w.place = ap (λ (i : ℕ). get_or values i e) at ∙ get_or_default values w.place e X within in
    let row-is' : row ≡ row_of rows w.place = row-is ∙ ap (row_of rows) at in
    loaded_more cells rows values done w old mid new clocked still within loaded
    (subst (λ (r : List ℕ). AreFlipped cells r values (value_at values w.place) w.after mid new) row-is'
    (subst (λ (b : Logic). AreFlipped cells row values b w.after mid new) before-is
    (subst (λ (a : Logic). AreFlipped cells row values (get_or values place e) a mid new) after-is flipped)))

-- a word's place is none of the words before it
pub not_before : (words : List Move) (i : ℕ) (w : Move) (values : List Logic) → AreApart words → i < length words → w ≡ get_or words i w → value_at (moved (take i words) values) w.place ≡ value_at values w.place
not_before words i w values apart h is =
    moved_other (take i words) values w.place
    (λ j d k.
    let few : length (take i words) ≡ i = length-take-le i words (omega arith) in
    let lt : j < i = omega arith in
    let here : (get_or (take i words) j d).place ≡ (get_or words j d).place = ap (λ (m : Move). m.place) (get_or-take i words j d lt) in
    let there : (get_or words i d).place ≡ w.place = ap (λ (m : Move). m.place) (get_or_default words i d w h ∙ sym is) in
    λ same. apart.apart j i d lt h (sym here ∙ same ∙ sym there))
