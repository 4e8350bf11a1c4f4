-- Whether a change follows a wave, by the wave's last change.
use Rattle.std.proofs.Common.{◌≡◌, ◌≢◌, ℕ, zero, suc, ◌+◌, ◌-◌, ◌<◌, ◌≤◌, ◌∙◌, inl, inr, Bool, IsTrue, ◌↔◌, List, [], ◌∷◌, length, get_or, take, Vec, Global, refl, ap, sym, subst, arith}
use Rattle.std.proofs.lemmas.List.{take_more, get_or-map}
use Rattle.gate_values.specs.declared.logic.Logic.{Logic}
use Rattle.gate_values.specs.declared.logic.Logic.TheVariants.{X}
use Rattle.gate_values.specs.declared.logic.Change.{Change}
use Rattle.gate_values.specs.Changes.{last_value}
use Rattle.net_waves.specs.Waves.{lists_in, wave_of, end_time, Follows, IsWaveFrom, IsWave}
use Rattle.net_waves.proofs.Waving.{IsWaveFrom-push}
use Rattle.net_waves.proofs.Compared.{cases_eq}

-- the last of some changes
abbrev pub last_of : List Change → Change → Change
last_of cs d = get_or cs (length cs - 1) d

last_of-cons : (c e d : Change) (cs : List Change) → last_of (c ∷ e ∷ cs) d ≡ last_of (e ∷ cs) d
last_of-cons c e d cs =
    let second : suc (suc (length cs)) - 1 ≡ suc (length cs) = omega arith in
    let first : suc (length cs) - 1 ≡ length cs = omega arith in
    rw (second, first) refl

pub end_time-last : (from : ℕ) (cs : List Change) (d : Change) → 0 < length cs → end_time from cs ≡ (last_of cs d).time + 1
end_time-last from [] d h = absurd (omega arith)
end_time-last from (c ∷ []) d h = refl
end_time-last from (c ∷ e ∷ cs) d h = end_time-last (c.time + 1) (e ∷ cs) d (omega arith) ∙ ap (λ (last : Change). last.time + 1) (sym (last_of-cons c e d cs))

pub last_value-last : (v : Logic) (cs : List Change) (d : Change) → 0 < length cs → last_value v cs ≡ (last_of cs d).value
last_value-last v [] d h = absurd (omega arith)
last_value-last v (c ∷ []) d h = refl
last_value-last v (c ∷ e ∷ cs) d h = last_value-last c.value (e ∷ cs) d (omega arith) ∙ ap (λ (last : Change). last.value) (sym (last_of-cons c e d cs))

-- a change that isn't later than the last one doesn't follow
pub early : (cs : List Change) (c d : Change) → 0 < length cs → c.time ≤ (last_of cs d).time → Follows cs c → ⊥
early cs c d some h follows = omega (arith, end_time-last 0 cs d some, follows.0)

-- a later one follows if it is of another value
pub later : (cs : List Change) (c d : Change) (b : Bool) → 0 < length cs → (last_of cs d).time < c.time → (IsTrue b ↔ (c.value ≢ (last_of cs d).value)) → IsTrue b ↔ Follows cs c
later cs c d b some h other = (
  λ t. (omega (arith, end_time-last 0 cs d some), rw (last_value-last X cs d some) (other.0 t)),
  λ follows. other.1 (rw (last_value-last X cs d some) at follows.1),
)

-- each change of a wave follows those before it
follows-from : (from : ℕ) (before : Logic) (cs : List Change) (i : ℕ) (d : Change) → IsWaveFrom from before cs → i < length cs → (end_time from (take i cs) ≤ (get_or cs i d).time) × ((get_or cs i d).value ≢ last_value before (take i cs))
follows-from from before [] i d w h = absurd (omega arith)
follows-from from before (c ∷ cs) zero d w h = (w.0, w.1)
follows-from from before (c ∷ cs) (suc i) d w h = follows-from (c.time + 1) c.value cs i d w.2 (omega arith)

pub follows-at : (cs : List Change) (i : ℕ) (d : Change) → IsWave cs → i < length cs → Follows (take i cs) (get_or cs i d)
follows-at cs i d w h = follows-from 0 X cs i d w h

-- a wave and a change that follows it are a wave
pub wave-more : (cs : List Change) (i : ℕ) (d : Change) → i < length cs → IsWave (take i cs) → Follows (take i cs) (get_or cs i d) → IsWave (take (i + 1) cs)
wave-more cs i d h w follows = rw (take_more cs i d h) (IsWaveFrom-push 0 X (take i cs) (get_or cs i d) w follows.0 follows.1)

-- one of the vectors is the wave of its net
pub list-at : (vs : List (Vec Change Global)) (i : ℕ) (v : Vec Change Global) (cs : List Change) → i < length vs → v ≡ get_or vs i v → cs ≡ v.items → wave_of (lists_in vs) i ≡ cs
list-at vs i v cs h at is = get_or-map (λ (w : Vec Change Global). w.items) vs i v [] h ∙ ap (λ (w : Vec Change Global). w.items) (sym at) ∙ sym is

-- one list more is a wave
pub waves-more : (lists : List (List Change)) (i : ℕ) (cs : List Change) → wave_of lists i ≡ cs → IsWave cs → ((n : ℕ) → n < i → IsWave (wave_of lists n)) → (n : ℕ) → n < i + 1 → IsWave (wave_of lists n)
waves-more lists i cs at wave so_far n h = elim (cases_eq i n) [
  | inl here ↦ subst (λ m. IsWave (wave_of lists m)) here (rw at wave)
  | inr other ↦ so_far n (omega (arith, λ (e : n ≡ i). other (sym e)))
]
