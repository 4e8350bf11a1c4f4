-- s27, computed.
use Rattle.std.proofs.Common.{◌≡◌, ℕ, [], ◌∷◌, refl, get_or}
use Rattle.gate_values.specs.declared.logic.Logic.{Logic}
use Rattle.gate_values.specs.declared.logic.Logic.TheVariants.{Zero, One, X}
use Rattle.gate_values.specs.declared.gate.Kind.TheVariants.{And, Nand, Or, Nor, Not}
use Rattle.gate_values.specs.declared.logic.Change.{Change}
use Rattle.gate_values.specs.Tables.{table_of, flip_of}
use Rattle.gate_values.specs.Behaviour.{Source, history, value}
use Rattle.gate_values.specs.Changes.{changes, latest}

at : ℕ → Logic → Change
unfolding changes
at t v = record { time = t; value = v }

o : Source
o = Source.Outside

-- G0 G1 G2 G3 | G5 G6 G7 G14 G17 G8 G15 G16 G9 G10 G11 G12 G13 | CK
s27 : ℕ → Source
unfolding o
s27 n = get_or (o ∷ o ∷ o ∷ o ∷ Source.Flop 1 13 17 X ∷ Source.Flop 1 14 17 X ∷ Source.Flop 1 16 17 X ∷ Source.Gate Not 1 (0 ∷ []) ∷ Source.Gate Not 1 (14 ∷ [])
    ∷ Source.Gate And 1 (7 ∷ 5 ∷ []) ∷ Source.Gate Or 1 (15 ∷ 9 ∷ []) ∷ Source.Gate Or 1 (3 ∷ 9 ∷ []) ∷ Source.Gate Nand 1 (11 ∷ 10 ∷ []) ∷ Source.Gate Nor 1 (7 ∷ 14 ∷ [])
    ∷ Source.Gate Nor 1 (4 ∷ 12 ∷ []) ∷ Source.Gate Nor 1 (1 ∷ 6 ∷ []) ∷ Source.Gate Nor 1 (2 ∷ 15 ∷ []) ∷ []) n Source.Outside

stim : ℕ → ℕ → Logic
unfolding at latest
stim t n = latest X (get_or ((at 0 One ∷ []) ∷ (at 0 One ∷ at 15 Zero ∷ []) ∷ (at 0 One ∷ []) ∷ (at 0 One ∷ []) ∷ []) n (at 0 Zero ∷ at 10 One ∷ at 15 Zero ∷ at 20 One ∷ [])) t

g9 : changes (value s27 stim 12) 21 ≡ at 4 One ∷ at 18 Zero ∷ []
unfolding s27 stim o at changes history table_of flip_of latest
g9 = refl
