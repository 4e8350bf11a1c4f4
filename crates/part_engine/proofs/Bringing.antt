-- What is brought to places is what is heard.
use Rattle.std.proofs.Common.{◌≡◌, ◌≢◌, ◌∙◌, ℕ, zero, suc, ◌+◌, ◌-◌, ◌<◌, ◌≤◌, ◌++◌, ◌==◌, inl, inr, Bool, true, false, cond, nat_lt, Option, Some, None, IsTrue, is_some, max, unwrap_or, IsSome, List, [], length, get_or, refl, ap, sym, subst, arith}
use Rattle.std.specs.List.{All, flat_map}
use Rattle.std.specs.List.Sorted.{IsStrictlyIncreasing}
use Rattle.std.proofs.lemmas.Bool.{cases_lt, cases_Bool, true≢false, cond-true}
use Rattle.std.proofs.lemmas.List.{append-nil, get_or_past}
use Rattle.std.proofs.lemmas.List.Elements.{All-nil, filter-append}
use Rattle.std.proofs.lemmas.Grind.{common_steps}
use Rattle.gate_values.specs.declared.logic.Logic.{Logic}
use Rattle.gate_values.specs.declared.logic.Logic.TheVariants.{X}
use Rattle.gate_values.specs.Behaviour as behaviour
use Rattle.gate_values.specs.Behaviour.{Source, source_delay, initial_of}
use Rattle.gate_values.specs.Changes.{held}
use Rattle.warp_stores.specs.Words.{Move}
use Rattle.warp_stores.specs.Lists.{words_at}
use Rattle.warp_gates.specs.Cells.{value_at}
use Rattle.place_moves.specs.Moves.{move_of, given_at, brought_before}
use Rattle.place_moves.specs.Journals.{AreBrought}
use Rattle.place_moves.proofs.Moving.{move_of-same}
use Rattle.place_moves.proofs.Sourcing.{value-outside, brought-driven}
use Rattle.warp_journal.specs.Books.{IsBrought}
use Rattle.warp_engine.specs.Runs.{Run}
use Rattle.warp_part.specs.Portion.{Portion, is_driven}
use Rattle.warp_part.specs.Inner.Building.{has}
use Rattle.warp_part.specs.Placing.{net_of_place, placed, place_source, place_given}
use Rattle.warp_part.proofs.PartLists.{has_past}
use Rattle.warp_part.proofs.Placing.{nothing_past}
use Rattle.warp_process.specs.Lawful.{IsLawful}
use Rattle.warp_process.specs.Played.{played_view}
use Rattle.warp_process.specs.View.{View, given_by, effective_at}
use Rattle.warp_process.specs.Heard.{IsHeardFrom}
use Rattle.part_engine.specs.Runs.{IsEngineOf, IsNextBrought}
use Rattle.part_engine.specs.Inner.Bringing.{move_to, heard_move}
use Rattle.part_engine.specs.FirstMoves.{first_move, AreFirstMoves}
use Rattle.part_engine.proofs.Sources.{source_out, delay_placed, delay_some, content_at}
use Rattle.warp_process.proofs.Playing.{played_lawful}
use Rattle.part_engine.proofs.Heeding.{some_or_none, unheard}
use Rattle.part_engine.proofs.Gathering.{to_own, to_other, gathered}

-- what is effective moves a place to it, and else it stays
moves_to : (place : ℕ) (from : Logic) (o : Option Logic) → move_to place from o ≡ move_of place from (unwrap_or o from)
moves_to place from None = sym (move_of-same place from)
moves_to place from (Some to) = refl

-- past time 0 nothing begins
pub not_begun : (p : Portion) (time : ℕ) (words : List Move) → time ≢ 0 → words ≡ [] → AreFirstMoves p time words
not_begun p zero words n e = absurd (n refl)
not_begun p (suc time) words n e = λ place. ap (words_at place) e

none_rises : IsStrictlyIncreasing []
none_rises i l = absurd (omega (arith, l))

module _ (v : View) (run : Run) (floor : ℕ) (of : IsEngineOf v floor run) where
  abbrev ps : ℕ → Source
  ps = place_source v.part

  abbrev pg : ℕ → ℕ → Logic
  pg = place_given v.part (given_by v)

  abbrev count : ℕ
  count = length v.part.nets

  abbrev shown : ℕ → ℕ → Logic
  shown = brought_before ps pg

  abbrev Out : ℕ → Type 0
  Out i = is_driven (get_or v.part.sources i behaviour.Outside) ≡ false

  abbrev Own : ℕ → Type 0
  Own i = is_driven (get_or v.part.sources i behaviour.Outside) ≡ true

  lawful : IsLawful (played_view v run.book.mark)
  lawful = played_lawful v run.book.mark of.received

  source_is : (i : ℕ) → Out i → ps i ≡ behaviour.Outside
  source_is i out = ap (placed v.part.nets) (source_out (get_or v.part.sources i behaviour.Outside) out)

  past_out : (i : ℕ) → count ≤ i → ps i ≡ behaviour.Outside
  past_out i far = ap (placed v.part.nets) (get_or_past v.part.sources i behaviour.Outside (omega (arith, of.received.part.sources)))

  -- ---- what is brought before a time

  given_is : (i t : ℕ) → i < count → Out i → shown i (suc t) ≡ given_by v t (net_of_place v.part i)
  given_is i t l out = ap (λ (s : Source). given_at s (pg t i)) (source_is i out) ∙ cond-true (nat_lt i count) (given_by v t (net_of_place v.part i)) X (below i count l)
    where
      below : (i n : ℕ) → i < n → nat_lt i n ≡ true
      below i n l = grind (arith, common_steps)

  heard_next : (i t : ℕ) → i < count → Out i → shown i (suc t) ≡ unwrap_or (effective_at v (net_of_place v.part i) t) (shown i t)
  unfolding held
  heard_next i zero l out = given_is i 0 l out
  heard_next i (suc t) l out = given_is i (suc t) l out ∙ ap (unwrap_or (effective_at v (net_of_place v.part i) (suc t))) (sym (given_is i t l out))

  own_next : (i t : ℕ) → Own i → shown i (suc t) ≡ initial_of (ps i)
  own_next i t own = brought-driven ps pg i t (let d = delay_some v.part of.received.part i own in omega (arith, delay_placed v.part.nets (get_or v.part.sources i behaviour.Outside)))

  past_next : (i t : ℕ) → count ≤ i → shown i t ≡ X
  past_next i zero far = refl
  past_next i (suc t) far = ap (λ (s : Source). given_at s (pg t i)) (past_out i far) ∙ nothing_past v.part of.received.part (given_by v) i t far

  -- ---- until a time nothing is brought

  module _ (time : ℕ) (ahead : run.book.mark ≤ time) (quiet : (t : ℕ) → run.book.mark ≤ t → t < time → IsHeardFrom v 0 t → ⊥) (start : run.book.mark ≡ 0 → time ≡ 0) where
    unheard_at : (i t : ℕ) → i < count → run.book.mark ≤ t → t < time → effective_at v (net_of_place v.part i) t ≡ None
    unheard_at i t l low high = some_or_none (effective_at v (net_of_place v.part i) t) (λ some. quiet t low high (omega arith, (i, l, some)))

    out_still : (i t : ℕ) → i < count → Out i → run.book.mark ≤ t → t < time → shown i (suc t) ≡ shown i t
    out_still i t l out low high =
        heard_next i t l out ∙ ap (λ (o : Option Logic). unwrap_or o (shown i t)) (unheard_at i t l low high)

    own_still : (i t : ℕ) → Own i → run.book.mark ≤ t → t < time → shown i (suc t) ≡ shown i t
    own_still i zero own low high = absurd (let e = start (omega arith) in omega arith)
    own_still i (suc t) own low high = own_next i (suc t) own ∙ sym (own_next i t own)

    still : (i t : ℕ) → run.book.mark ≤ t → t < time → shown i (suc t) ≡ shown i t
    still i t low high = elim (cases_lt i count) [
      | inr far ↦ past_next i (suc t) far ∙ sym (past_next i t far)
      | inl l ↦ elim (cases_Bool (is_driven (get_or v.part.sources i behaviour.Outside))) [ inl own ↦ own_still i t own low high | inr out ↦ out_still i t l out low high ]
    ]

    none_brought : (t : ℕ) → run.book.mark ≤ t → t < time → AreBrought ps pg t []
    none_brought t low high i = sym (ap (move_of i (shown i t)) (still i t low high) ∙ move_of-same i (shown i t))

    -- what a place shows at the mark it shows just before the time
    kept : (k i : ℕ) → run.book.mark + k ≤ time → shown i (run.book.mark + k) ≡ shown i run.book.mark
    kept zero i l = ap (shown i) (let e : run.book.mark + 0 ≡ run.book.mark = omega arith in e)
    kept (suc k) i l =
        ap (shown i) (let e : run.book.mark + suc k ≡ suc (run.book.mark + k) = omega arith in e)
        ∙ still i (run.book.mark + k) (omega arith) (omega arith) ∙ kept k i (omega arith)

    value_is : (i : ℕ) → Out i → value_at run.book.gates.values i ≡ shown i time
    value_is i out =
        of.run.is.played.showing.values i
        ∙ value-outside ps pg i run.book.mark (source_is i out)
        ∙ sym (ap (shown i) (let e : time ≡ run.book.mark + (time - run.book.mark) = omega arith in e) ∙ kept (time - run.book.mark) i (omega arith))

    -- ---- what is brought at the time

    module _ (first : List Move) (firsts : AreFirstMoves v.part time first) (places : List ℕ) (rising : IsStrictlyIncreasing places)
        (within : All (λ i. i < count) places) (all : (i : ℕ) → i < count → effective_at v (net_of_place v.part i) time ≢ None → IsTrue (has places i)) where
      abbrev move : ℕ → List Move
      move = heard_move v run.book.gates.values time

      abbrev effective : ℕ → Option Logic
      effective i = effective_at v (net_of_place v.part i) time

      words_are : (i : ℕ) → words_at i (first ++ flat_map move places) ≡ first_move v.part time i ++ cond (has places i) (move i) []
      words_are i =
          filter-append (λ (w : Move). w.place == i) first (flat_map move places)
          ∙ ap (λ (ws : List Move). ws ++ words_at i (flat_map move places)) (firsts i)
          ∙ ap (λ (ws : List Move). first_move v.part time i ++ ws)
          (gathered move (λ j. to_own j (value_at run.book.gates.values j) (effective j)) (λ p j n. to_other p j (value_at run.book.gates.values j) (effective j) n) places rising i)

      -- a place that has nothing in place of which something is heard isn't listed, or has nothing to do
      listed : (i : ℕ) → i < count → cond (has places i) (move i) [] ≡ move i
      listed i l = go (effective i) refl
        where
          either : (b : Bool) → ◌≡◌ {A = List Move} (cond b [] []) []
          either true = refl
          either false = refl

          go : (o : Option Logic) → effective i ≡ o → cond (has places i) (move i) [] ≡ move i
          go None e = subst (λ (ws : List Move). cond (has places i) ws [] ≡ ws) (sym (ap (move_to i (value_at run.book.gates.values i)) e)) (either (has places i))
          go (Some x) e = cond-true (has places i) (move i) [] (all i l (λ none. true≢false (ap (λ (o : Option Logic). is_some o) (sym e ∙ none))))

      first_none : (i : ℕ) → initial_of (ps i) ≡ X → first_move v.part time i ≡ []
      first_none i e = go time
        where
          go : (t : ℕ) → first_move v.part t i ≡ []
          go zero = ap (move_of i X) (content_at v.part of.received.part i ∙ e) ∙ move_of-same i X
          go (suc t) = refl

      own_brought : (i : ℕ) → i < count → Own i → first_move v.part time i ++ cond (has places i) (move i) [] ≡ move_of i (shown i time) (shown i (suc time))
      own_brought i l own =
          ap (λ (ws : List Move). first_move v.part time i ++ ws) (listed i l ∙ ap (move_to i (value_at run.book.gates.values i)) (unheard (played_view v run.book.mark) lawful i time l own))
          ∙ append-nil (first_move v.part time i) ∙ go time
        where
          go : (t : ℕ) → first_move v.part t i ≡ move_of i (shown i t) (shown i (suc t))
          go zero = ap (move_of i X) (content_at v.part of.received.part i ∙ sym (own_next i 0 own))
          go (suc t) = sym (ap (move_of i (shown i (suc t))) (own_next i (suc t) own ∙ sym (own_next i t own)) ∙ move_of-same i (shown i (suc t)))

      out_brought : (i : ℕ) → i < count → Out i → first_move v.part time i ++ cond (has places i) (move i) [] ≡ move_of i (shown i time) (shown i (suc time))
      out_brought i l out =
          ap (λ (ws : List Move). ws ++ cond (has places i) (move i) []) (first_none i (ap initial_of (source_is i out)))
          ∙ listed i l
          ∙ moves_to i (value_at run.book.gates.values i) (effective i)
          ∙ ap (λ (x : Logic). move_of i x (unwrap_or (effective i) x)) (value_is i out)
          ∙ sym (ap (move_of i (shown i time)) (heard_next i time l out))

      past_brought : (i : ℕ) → count ≤ i → first_move v.part time i ++ cond (has places i) (move i) [] ≡ move_of i (shown i time) (shown i (suc time))
      past_brought i far =
          ap (λ (ws : List Move). ws ++ cond (has places i) (move i) []) (first_none i (ap initial_of (past_out i far)))
          ∙ ap (λ (b : Bool). cond b (move i) []) (has_past places count i within far)
          ∙ sym (ap (move_of i (shown i time)) (past_next i (suc time) far ∙ sym (past_next i time far)) ∙ move_of-same i (shown i time))

      all_brought : AreBrought ps pg time (first ++ flat_map move places)
      all_brought i = words_are i ∙ elim (cases_lt i count) [
        | inr far ↦ past_brought i far
        | inl l ↦ elim (cases_Bool (is_driven (get_or v.part.sources i behaviour.Outside))) [ inl own ↦ own_brought i l own | inr out ↦ out_brought i l out ]
      ]

      pub is_brought : IsBrought ps pg run.book.mark time (first ++ flat_map move places)
      is_brought = record { still = none_brought; brought = all_brought }

    -- where nothing is heard at the time, only what begins is brought
    pub only_first : (first : List Move) → AreFirstMoves v.part time first → ((i : ℕ) → i < count → effective_at v (net_of_place v.part i) time ≡ None) → IsBrought ps pg run.book.mark time first
    only_first first firsts none =
        subst (IsBrought ps pg run.book.mark time) (append-nil first)
        (is_brought first firsts [] none_rises (All-nil (λ i. i < count)) (λ i l some. absurd (some (none i l))))

    -- at a time from the floor on that isn't the least one at which something is heard, nothing is
    pub other_none : v.floor ≤ time → (brought : Option ℕ) → IsNextBrought v run.book.mark brought → (brought ≡ Some time → ⊥) → (i : ℕ) → i < count → effective_at v (net_of_place v.part i) time ≡ None
    other_none since brought least other i l = some_or_none (effective_at v (net_of_place v.part i) time) (λ some. go brought least other some)
      where
        go : (o : Option ℕ) → IsNextBrought v run.book.mark o → (o ≡ Some time → ⊥) → IsSome (effective_at v (net_of_place v.part i) time) → ⊥
        go None h n some = h time (omega (arith, ahead, since), (i, l, some))
        go (Some at) h n some =
            let until : at ≤ time = h.1 time (omega (arith, ahead, since), (i, l, some)) in
            let from : max run.book.mark v.floor ≤ at = h.0.0 in
            elim (cases_lt at time) [
              | inr late ↦ n (ap (λ (t : ℕ). Some t) (let e : at ≡ time = omega (arith, late, until) in e))
              | inl early ↦ quiet at (omega (arith, from)) early (omega arith, h.0.1)
            ]
