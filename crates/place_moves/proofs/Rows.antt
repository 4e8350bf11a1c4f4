-- A journal, computed: an inverter of delay 2 reads a place that is One from time 0 on.
use Rattle.std.proofs.Common.{◌≡◌, ℕ, zero, suc, ◌<◌, ◌≤◌, Bool, cond, List, [], ◌∷◌, map, get_or, refl, ap, sym, arith}
use Rattle.std.proofs.lemmas.Bool.{ne_eqb}
use Rattle.std.proofs.lemmas.List.Elements.{All-from_recursion}
use Rattle.gate_values.specs.declared.logic.Logic.{Logic}
use Rattle.gate_values.specs.declared.logic.Logic.TheVariants.{Zero, One, X}
use Rattle.gate_values.specs.declared.gate.Kind.TheVariants.{Not}
use Rattle.gate_values.specs.Tables.{table_of}
use Rattle.gate_values.specs.Behaviour as behaviour
use Rattle.gate_values.specs.Behaviour.{Source}
use Rattle.warp_stores.specs.Words.{Move}
use Rattle.warp_stores.specs.Delays.{empty_after, with_made}
use Rattle.warp_gates.specs.Cells.{Outside, Gate, Gates, AreGates, IsCell}
use Rattle.warp_gates.specs.declared.put.Put.{Put}
use Rattle.place_moves.specs.Journals.{Journal, IsBegun, IsPlayed, AreBrought, IsStep, IsBack, marked, step_words}
use Rattle.place_moves.specs.Inner.Journals.{AreMoves}
use Rattle.place_moves.proofs.Beginning.{begun_plays}
use Rattle.place_moves.proofs.Stepping.{plays_on}
use Rattle.place_moves.proofs.Quieting.{quiet_until}
use Rattle.place_moves.proofs.Backing.{back_plays}
use Rattle.place_moves.proofs.Asking.{step_moves}

abbrev source : ℕ → Source
source n = get_or (behaviour.Outside ∷ behaviour.Gate Not 2 (0 ∷ []) ∷ []) n behaviour.Outside

abbrev given : ℕ → ℕ → Logic
given t n = get_or (One ∷ []) n X

abbrev gates_with : List Logic → List Logic → Gates
gates_with values outputs = record { cells = Outside ∷ Gate Not (0 ∷ []) ∷ []; queues = 0 ∷ 0 ∷ []; values = values; outputs = outputs }

abbrev rise : Move
rise = record { place = 0; before = X; after = One }

abbrev fall : Move
fall = record { place = 1; before = X; after = Zero }

abbrev sent : List Put
sent = record { queue = 0; word = fall } ∷ []

-- before the first step
abbrev at_first : Journal
at_first = record { mark = 0; gates = gates_with (X ∷ X ∷ []) (X ∷ X ∷ []); queues = empty_after 2 ∷ []; history = [] }

-- after it: the inverter's fall is ahead
abbrev then_there : Journal
then_there = record {
  mark = 1;
  gates = gates_with (One ∷ X ∷ []) (X ∷ Zero ∷ []);
  queues = record { delay = 2; line = record { dead = 0; read = []; ahead = (0, fall) ∷ [] } } ∷ [];
  history = (0, rise) ∷ [];
}

law_with : (a b c d : Logic) → d ≡ table_of Not (a ∷ []) → AreGates (gates_with (a ∷ b ∷ []) (c ∷ d ∷ []))
law_with a b c d h = record {
  queues = refl;
  values = refl;
  outputs = refl;
  closed = All-from_recursion (IsCell 2) (Outside ∷ Gate Not (0 ∷ []) ∷ []) (tt, ((refl, All-from_recursion (λ i. i < 2) (0 ∷ []) (omega arith, tt)), tt));
  settled = elim [ zero ↦ tt | suc zero ↦ h | suc (suc n) ↦ tt ];
}

first_law : AreGates at_first.gates
unfolding table_of
first_law = law_with X X X X refl

then_law : AreGates then_there.gates
unfolding table_of
then_law = law_with One X X Zero refl

begun : IsBegun source at_first
begun = record {
  mark = refl;
  history = refl;
  gates = record {
    law = first_law;
    sources = elim [ zero ↦ refl | suc zero ↦ (2, omega arith, refl) | suc (suc n) ↦ refl ];
    within = elim [ zero ↦ λ h. omega arith | suc zero ↦ λ h. omega arith | suc (suc n) ↦ λ h. omega arith ];
    delays = elim [ zero ↦ λ h. absurd (omega arith) | suc zero ↦ λ h. refl | suc (suc n) ↦ λ h. absurd (omega arith) ];
  };
  values = elim [ zero ↦ refl | suc zero ↦ refl | suc (suc n) ↦ refl ];
  outputs = elim [ zero ↦ refl | suc zero ↦ refl | suc (suc n) ↦ refl ];
  read = elim [ zero ↦ refl | suc n ↦ refl ];
  ahead = elim [ zero ↦ refl | suc n ↦ refl ];
}

past : (p t : ℕ) → 2 ≤ p → given t p ≡ X
past zero t h = absurd (omega arith)
past (suc p) t h = refl

brought : AreBrought source given 0 (rise ∷ [])
brought zero = refl
brought (suc zero) = refl
brought (suc (suc n)) = ap (λ (b : Bool). cond b (rise ∷ []) []) (ne_eqb 0 (suc (suc n)) (λ e. omega arith))

stepped : IsStep at_first then_there (step_words at_first (rise ∷ [])) sent
unfolding table_of
stepped = record {
  mark = refl;
  history = refl;
  law = then_law;
  cells = refl;
  numbers = refl;
  values = refl;
  outputs = elim [ zero ↦ refl | suc zero ↦ refl | suc (suc n) ↦ refl ];
  each = elim [ zero ↦ refl | suc zero ↦ refl | suc (suc n) ↦ ap (λ (b : Bool). cond b sent []) (ne_eqb 1 (suc (suc n)) (λ e. omega arith)) ];
  same = refl;
  queues = elim [ zero ↦ refl | suc n ↦ sym (ap (λ (b : Bool). with_made 0 (map (λ (p : Put). p.word) (cond b sent [])) (empty_after 0)) (ne_eqb (suc n) 0 (λ e. omega arith))) ];
}

played : IsPlayed source given 0 then_there
played = plays_on source given 0 at_first then_there (rise ∷ []) sent (begun_plays source given at_first begun past) brought stepped

-- and back again
went_back : IsBack 0 then_there at_first
unfolding table_of
went_back = record {
  mark = refl;
  history = refl;
  law = first_law;
  cells = refl;
  numbers = refl;
  values = refl;
  outputs = elim [ zero ↦ refl | suc zero ↦ refl | suc (suc n) ↦ refl ];
  same = refl;
  queues = elim [ zero ↦ refl | suc n ↦ refl ];
}

played_back : IsPlayed source given 0 at_first
played_back = back_plays source given 0 then_there played 0 (omega arith) (omega arith) at_first went_back

-- at time 2 the fall comes true
quiet_brought : (t : ℕ) → 1 ≤ t → AreBrought source given t []
quiet_brought zero l p = absurd (omega arith)
quiet_brought (suc t) l zero = refl
quiet_brought (suc t) l (suc zero) = refl
quiet_brought (suc t) l (suc (suc n)) = refl

played_to : IsPlayed source given 0 (marked 2 then_there)
played_to = quiet_until source given 0 2 then_there played (omega arith) (omega arith) (λ t l m. quiet_brought t l)

fallen : AreMoves source given 2 (fall ∷ [])
fallen = step_moves source given 0 (marked 2 then_there) played_to [] (quiet_brought 2 (omega arith))
