use Rattle.std.proofs.Common.{◌≡◌, ◌<◌, ℕ, List, [], ◌∷◌, length, get_or, take, drop, refl, ap, sym, ◌∙◌, arith}
use Rattle.std.proofs.lemmas.List.{get_or-map}
use Rattle.std.proofs.Math.Seq.{drop-nil, take-nil}
use Rattle.warp_part.specs.declared.cell.Span.{Span}
use Rattle.warp_part.specs.Shown.Part.{stretch}
use Rattle.warp_part.proofs.part.Part.readers.Goals as goal

empty : (xs : List ℕ) → length xs ≡ 0 → xs ≡ []
empty [] e = refl
empty (x ∷ xs) e = absurd (omega (arith, e))

-- a stretch of nothing
nothing : (xs : List ℕ) → length xs ≡ 0 → (span : Span) → stretch xs span ≡ []
nothing xs e span = ap (λ (ys : List ℕ). take span.count (drop span.start ys)) (empty xs e) ∙ ap (λ (ys : List ℕ). take span.count ys) (drop-nil span.start) ∙ take-nil span.count

pub returns-then-is_empty : goal.returns-then-is_empty
returns-then-is_empty c =
    let none : length c.self.inside.readers.items ≡ 0 = grind (arith, c.is_empty.ensures, c.if-is_empty.true) in
    let slot : c.args.slot < length c.self.inside.nets.items = (rw (← c.self.view_is) at c.requires) in
    let within : c.args.slot < length c.self.inside.told.items = omega (arith, slot, c.self.invariant.told) in
    let some : Span = record { start = 0; count = 0 } in
    rw (← c.self.view_is) (sym (get_or-map (stretch c.self.inside.readers.items) c.self.inside.told.items c.args.slot some [] within ∙ nothing c.self.inside.readers.items none (get_or c.self.inside.told.items c.args.slot some)))
