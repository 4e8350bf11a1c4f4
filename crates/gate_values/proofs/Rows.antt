-- Small circuits, computed.
use Rattle.std.proofs.Common.{◌≡◌, ℕ, [], ◌∷◌, refl, get_or}
use Rattle.gate_values.specs.declared.logic.Logic.{Logic}
use Rattle.gate_values.specs.declared.logic.Logic.TheVariants.{Zero, One, X}
use Rattle.gate_values.specs.declared.gate.Kind.TheVariants.{And, Nand, Not, Buff}
use Rattle.gate_values.specs.declared.logic.Change.{Change}
use Rattle.gate_values.specs.Tables.{table_of, flip_of}
use Rattle.gate_values.specs.Behaviour.{Source, history, value}
use Rattle.gate_values.specs.Changes.{changes, latest}

at : ℕ → Logic → Change
unfolding changes
at t v = record { time = t; value = v }

nand_source : ℕ → Source
nand_source n = get_or (Source.Outside ∷ Source.Gate Nand 2 (0 ∷ 1 ∷ []) ∷ []) n Source.Outside

nand_given : ℕ → ℕ → Logic
unfolding at latest
nand_given t n = latest X (at 0 Zero ∷ at 4 One ∷ []) t

oscillates : changes (value nand_source nand_given 1) 13 ≡ at 2 One ∷ at 6 Zero ∷ at 8 One ∷ at 10 Zero ∷ at 12 One ∷ []
unfolding nand_source nand_given at changes history table_of latest
oscillates = refl

buffer_source : ℕ → Source
buffer_source n = get_or (Source.Outside ∷ Source.Gate Buff 5 (0 ∷ []) ∷ []) n Source.Outside

buffer_given : ℕ → ℕ → Logic
unfolding at latest
buffer_given t n = latest X (at 0 Zero ∷ at 10 One ∷ at 11 Zero ∷ []) t

short_pulse : changes (value buffer_source buffer_given 1) 21 ≡ at 5 Zero ∷ at 15 One ∷ at 16 Zero ∷ []
unfolding buffer_source buffer_given at changes history table_of latest
short_pulse = refl

-- nets D, Q, CK
flop_source : ℕ → Source
flop_source n = get_or (Source.Outside ∷ Source.Flop 1 0 2 X ∷ Source.Outside ∷ []) n Source.Outside

flop_given : ℕ → ℕ → Logic
unfolding at latest
flop_given t n = latest X (at 0 Zero ∷ at 5 One ∷ []) t

samples_before : changes (value flop_source flop_given 1) 9 ≡ at 6 Zero ∷ []
unfolding flop_source flop_given at changes history flip_of latest
samples_before = refl

-- nets N, Q, CK: Q begins with 0, and each rising edge turns it
toggle_source : ℕ → Source
toggle_source n = get_or (Source.Gate Not 1 (1 ∷ []) ∷ Source.Flop 1 0 2 Zero ∷ Source.Outside ∷ []) n Source.Outside

toggle_given : ℕ → ℕ → Logic
unfolding at latest
toggle_given t n = latest X (at 0 Zero ∷ at 3 One ∷ at 5 Zero ∷ at 7 One ∷ []) t

toggles : changes (value toggle_source toggle_given 1) 11 ≡ at 0 Zero ∷ at 4 One ∷ at 8 Zero ∷ []
unfolding toggle_source toggle_given at changes history table_of flip_of latest
toggles = refl

toggles_data : changes (value toggle_source toggle_given 0) 11 ≡ at 1 One ∷ at 5 Zero ∷ at 9 One ∷ []
unfolding toggle_source toggle_given at changes history table_of flip_of latest
toggles_data = refl

-- nets D, E, CK, G, Q: the clock of Q is the gate G, which is 1 where both CK and E are
gated_source : ℕ → Source
gated_source n = get_or (Source.Outside ∷ Source.Outside ∷ Source.Outside ∷ Source.Gate And 1 (2 ∷ 1 ∷ []) ∷ Source.Flop 1 0 3 Zero ∷ []) n Source.Outside

gated_given : ℕ → ℕ → Logic
unfolding at latest
gated_given t n = latest X (get_or ((at 0 One ∷ []) ∷ (at 0 Zero ∷ at 5 One ∷ []) ∷ []) n (at 0 Zero ∷ at 2 One ∷ at 4 Zero ∷ at 6 One ∷ [])) t

loads_by_its_gate : changes (value gated_source gated_given 4) 11 ≡ at 0 Zero ∷ at 8 One ∷ []
unfolding gated_source gated_given at changes history table_of flip_of latest
loads_by_its_gate = refl

-- nets D, Q, CK: that the clock is 1 at 0 may be an edge, and D was unknown before it
early_source : ℕ → Source
early_source n = get_or (Source.Outside ∷ Source.Flop 1 0 2 One ∷ Source.Outside ∷ []) n Source.Outside

early_given : ℕ → ℕ → Logic
unfolding at latest
early_given t n = latest X (at 0 One ∷ []) t

early_edge : changes (value early_source early_given 1) 3 ≡ at 0 One ∷ at 1 X ∷ []
unfolding early_source early_given at changes history flip_of latest
early_edge = refl

-- a delay of 3: the initial content stands until then
late_source : ℕ → Source
late_source n = get_or (Source.Outside ∷ Source.Flop 3 0 2 One ∷ Source.Outside ∷ []) n Source.Outside

late_edge : changes (value late_source early_given 1) 5 ≡ at 0 One ∷ at 3 X ∷ []
unfolding late_source early_given at changes history flip_of latest
late_edge = refl
