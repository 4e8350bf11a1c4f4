-- What is told of the nets' contents, net by net.
use Rattle.std.proofs.Common.{◌≡◌, ◌∙◌, ℕ, ◌+◌, ◌<◌, List, [], ◌∷◌, ◌++◌, length, get_or, take, ap, sym}
use Rattle.std.specs.List.{flat_map}
use Rattle.std.proofs.lemmas.Grind.{flat_map-append}
use Rattle.std.proofs.lemmas.List.{append-nil, append_assoc, take_more}
use Rattle.gate_values.specs.declared.logic.Logic.{Logic}
use Rattle.gate_values.specs.Behaviour.{Outside, initial_of}
use Rattle.warp_part.specs.Portion.{Portion, IsPortion, source_of, readers_of}
use Rattle.warp_part.proofs.Slots.{of_net-at}
use Rattle.warp_process.specs.declared.message.Message.{Message}
use Rattle.warp_process.specs.Shown.Step.{net_at}
use Rattle.warp_process.specs.Opening.{first_messages}

-- the messages on what a net begins with
abbrev pub first : Portion → ℕ → List Message
first p n = first_messages n (initial_of (source_of p n)) (readers_of p n)

-- those on one net more
pub first_more : (p : Portion) → IsPortion p → (i : ℕ) → i < length p.nets → (before out more : List Message) (net : ℕ) (content : Logic) (readers : List ℕ)
    → net ≡ net_at p i → content ≡ initial_of (get_or p.sources i Outside) → readers ≡ get_or p.readers i []
    → out ≡ before ++ flat_map (first p) (take i p.nets) → more ≡ out ++ first_messages net content readers → more ≡ before ++ flat_map (first p) (take (i + 1) p.nets)
first_more p is i l before out more net content readers net_is content_is readers_is so_far now =
    let n : ℕ = get_or p.nets i 0 in
    let source : initial_of (get_or p.sources i Outside) ≡ initial_of (source_of p n) = ap initial_of (sym (of_net-at p.nets p.sources Outside i is.ascending l)) in
    let told : get_or p.readers i [] ≡ readers_of p n = sym (of_net-at p.nets p.readers [] i is.ascending l) in
    let here : first_messages net content readers ≡ first p n =
    ap (λ (m : ℕ). first_messages m content readers) net_is ∙ ap (λ (v : Logic). first_messages n v readers) (content_is ∙ source) ∙ ap (first_messages n (initial_of (source_of p n))) (readers_is ∙ told) in
    let last : flat_map (first p) (take (i + 1) p.nets) ≡ flat_map (first p) (take i p.nets) ++ first p n =
    ap (flat_map (first p)) (take_more p.nets i 0 l) ∙ flat_map-append (first p) (take i p.nets) (n ∷ []) ∙ ap (λ (ms : List Message). flat_map (first p) (take i p.nets) ++ ms) (append-nil (first p n)) in
    now ∙ ap (λ (ms : List Message). out ++ ms) here ∙ ap (λ (ms : List Message). ms ++ first p n) so_far ∙ append_assoc before (flat_map (first p) (take i p.nets)) (first p n)
    ∙ ap (λ (ms : List Message). before ++ ms) (sym last)
