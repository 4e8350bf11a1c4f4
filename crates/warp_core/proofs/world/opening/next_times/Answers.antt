use Rattle.std.proofs.Common.{◌≡◌, ◌∙◌, ℕ, ◌+◌, ◌<◌, List, [], ◌∷◌, ◌++◌, length, take, get_or, ap, sym, subst, arith}
use Rattle.std.proofs.lemmas.List.{take_all, take_more}
use Rattle.warp_process.specs.View.{Process}
use Rattle.warp_core.specs.Inner.Kept.{IsNextTime, AreNextTimes}
use Rattle.warp_core.proofs.NextTimes.{next_push}
use Rattle.warp_core.proofs.world.opening.next_times.Goals as goal

next_none : (end : ℕ) (next : List ℕ) → next ≡ [] → AreNextTimes [] end next
next_none end next e = record { count = ap length e; times = λ b l. absurd (omega arith) }

-- a block more
next_more : (blocks : List Process) (i : ℕ) (block : Process) (end t : ℕ) (next more : List ℕ) → i < length blocks → block ≡ get_or blocks i block → AreNextTimes (take i blocks) end next → IsNextTime block.seen end t → more ≡ next ++ t ∷ [] → AreNextTimes (take (i + 1) blocks) end more
next_more blocks i block end t next more l is was here e =
    let taken : take (i + 1) blocks ≡ take i blocks ++ block ∷ [] = take_more blocks i block l ∙ ap (λ (b : Process). take i blocks ++ b ∷ []) (sym is) in
    subst (λ (bs : List Process). AreNextTimes bs end more) (sym taken) (next_push (take i blocks) end t next more block was here e)

pub loop-block-init : goal.loop-block-init
loop-block-init c = next_none c.args.end c.in_ok-next.next.items c.in_ok-next.ensures.items

pub loop-block-preserved : goal.loop-block-preserved
loop-block-preserved c =
    next_more c.args.blocks.now c.loop-block.block-index c.block-item.result c.args.end c.next_of.result c.loop-block.next.items c.push.new.self.items c.loop-block-test.true c.block-item.is
    c.loop-block.invariant c.next_of.ensures c.in_ok-push.ensures.items

pub returns : goal.returns
returns c =
    subst (λ (bs : List Process). AreNextTimes bs c.args.end c.loop-block.next.items) (take_all c.loop-block.block-index c.args.blocks.now c.loop-block-test.false) c.loop-block.invariant
