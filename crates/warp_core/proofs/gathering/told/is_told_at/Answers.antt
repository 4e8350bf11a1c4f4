use Rattle.std.proofs.Common.{◌≡◌, ◌∙◌, ℕ, List, [], true, Some, ap, subst, sym}
use Rattle.gate_values.specs.declared.logic.Logic.TheVariants.{X}
use Rattle.gate_values.specs.declared.logic.Change.{Change}
use Rattle.gate_values.specs.Changes.{pair_at}
use Rattle.gate_netlist.specs.Cut.{owner_of}
use Rattle.warp_part.specs.Portion.{Portion, reads, readers_of}
use Rattle.warp_part.specs.PartOf.{part_of}
use Rattle.warp_process.specs.View.{View}
use Rattle.warp_process.proofs.Agreeing.{same_pairs}
use Rattle.net_waves.proofs.Waving.{wave_rises}
use Rattle.warp_core.proofs.Hearing.{read_told}
use Rattle.warp_core.proofs.gathering.told.is_told_at.Goals as goal

pub returns-in-Some : goal.returns-in-Some
returns-in-Some g c d b of below same = (
  λ yes_ read t. c.requires.list.1 t ∙ ap (λ (cs : List Change). pair_at cs t) (c.are_same.ensures.0 yes_ ∙ c.in-Some.ensures.changes),
  λ told. c.are_same.ensures.1 (same_pairs c.args.list.now c.in-Some.changes.now c.requires.list.0 (wave_rises 0 X c.in-Some.changes.now c.in-Some.ensures.wave)
      (λ t. sym (c.requires.list.1 t) ∙ (told (subst (λ (p : Portion). reads p c.args.net ≡ true) c.part.ensures (sym c.reads.ensures ∙ c.if-not-reads.false)) t ∙ ap (λ (cs : List Change). pair_at cs t) (sym c.in-Some.ensures.changes)))),
)

pub returns-in-None : goal.returns-in-None
returns-in-None g c d b of below same =
    let cut = c.args.cut.now in
    let owner : ℕ = c.in-None.ensures.none.0 in
    let owned : owner_of cut c.args.net ≡ Some owner = c.in-None.ensures.none.2 in
    let mine : c.args.block.now.seen.part ≡ part_of d cut b = ap (λ (v : View). v.part) same ∙ (of.parts b below).part in
    let read : reads (part_of d cut b) c.args.net ≡ true = subst (λ (p : Portion). reads p c.args.net ≡ true) (c.part.ensures ∙ mine) (sym c.reads.ensures ∙ c.if-not-reads.false) in
    let none : readers_of (part_of d cut owner) c.args.net ≡ [] = subst (λ (p : Portion). readers_of p c.args.net ≡ []) (of.parts owner c.in-None.ensures.none.1).part c.in-None.ensures.none.3 in
    absurd (read_told d cut of.fits b owner c.args.net below read owned none)
