use Rattle.std.proofs.Common.{◌≡◌, ◌==◌, ◌+◌, ◌-◌, ◌<◌, ◌≤◌, cond, List, length, sym, subst, arith}
use Rattle.std.specs.List.{All, count_by}
use Rattle.std.proofs.lemmas.List.{length-take-le}
use Rattle.warp_process.specs.declared.message.Message.{Message}
use Rattle.warp_process.specs.View.{View}
use Rattle.warp_core.specs.Shown.{scene_of}
use Rattle.warp_core.specs.Inner.Kept.{IsSoonest, IsNextTime}
use Rattle.warp_core.specs.Play.{IsDelivered}
use Rattle.warp_core.specs.World.{Scene, IsBefore}
use Rattle.warp_core.proofs.Acted.{scene_with}
use Rattle.warp_core.proofs.Delivering.{deliverable, delivered_flies}
use Rattle.warp_core.proofs.NextTimes.{next_kept}
use Rattle.warp_core.proofs.Played.{delivered_lawful, delivered_before, delivered_is, flight_within}
use Rattle.warp_core.proofs.Soonest.{slice_left, left_within, left_count, rest_of}
use Rattle.warp_core.proofs.Sweeping.{seen_is}
use Rattle.warp_core.proofs.world.World.deliver.Goals as goal

pub hand_over-requires-clause-taken : goal.hand_over-requires-clause-taken
hand_over-requires-clause-taken c =
    let w = scene_of c.self.inside in
    let within : c.args.place < length w.flight = omega (arith, c.if-place-len.false, c.len.ensures, c.self.inside.flight.ok.0) in
    deliverable w c.self.invariant.law c.args.place c.index-message.result.now within c.index-message.ensures (omega (arith, c.len.type_inv, c.len.ensures, c.self.inside.flight.ok.0))

pub slice_bounds-soonest_without-end : goal.slice_bounds-soonest_without-end
slice_bounds-soonest_without-end c =
    let flight = c.self.inside.flight.items in
    let within : c.args.place < length flight = omega (arith, c.if-place-len.false, c.len.ensures, c.self.inside.flight.ok.0) in
    let size : c.len-left.result ≡ length flight = omega (arith, c.len-left.ensures, c.self.inside.flight.ok.0) in
    sym (length-take-le (c.len-left.result - 1) c.deref.result.now
    (left_within flight c.hand_over.new.flight.items c.in-Ok.ensures.sends.sends.sent c.deref.result.now c.args.place c.len-left.result within size c.deref.ensures.value c.in-Ok.ensures.sends.sends.appended))

pub soonest_without-soonest-requires-clause-times : goal.soonest_without-soonest-requires-clause-times
soonest_without-soonest-requires-clause-times c =
    let w = scene_of c.self.inside in
    let flight = c.self.inside.flight.items in
    let within : c.args.place < length flight = omega (arith, c.if-place-len.false, c.len.ensures, c.self.inside.flight.ok.0) in
    let size : c.len-left.result ≡ length flight = omega (arith, c.len-left.ensures, c.self.inside.flight.ok.0) in
    let P : Message → Type 0 = λ m. m.time ≤ w.horizon + 1 in
    subst (All P) (sym (slice_left flight c.hand_over.new.flight.items c.in-Ok.ensures.sends.sends.sent c.deref.result.now c.args.place c.len-left.result within size c.deref.ensures.value c.in-Ok.ensures.sends.sends.appended))
    (rest_of P flight c.args.place (flight_within w c.self.invariant.law))

pub soonest_without-soonest-requires-clause-least : goal.soonest_without-soonest-requires-clause-least
soonest_without-soonest-requires-clause-least c =
    let flight = c.self.inside.flight.items in
    let within : c.args.place < length flight = omega (arith, c.if-place-len.false, c.len.ensures, c.self.inside.flight.ok.0) in
    let size : c.len-left.result ≡ length flight = omega (arith, c.len-left.ensures, c.self.inside.flight.ok.0) in
    let P : Message → Type 0 = λ m. c.self.inside.soonest.time ≤ m.time in
    subst (All P) (sym (slice_left flight c.hand_over.new.flight.items c.in-Ok.ensures.sends.sends.sent c.deref.result.now c.args.place c.len-left.result within size c.deref.ensures.value c.in-Ok.ensures.sends.sends.appended))
    (rest_of P flight c.args.place c.self.invariant.soonest.least)

pub soonest_without-soonest-requires-clause-count : goal.soonest_without-soonest-requires-clause-count
soonest_without-soonest-requires-clause-count c =
    let flight = c.self.inside.flight.items in
    let s = c.self.inside.soonest in
    let m = c.index-message.result.now in
    let within : c.args.place < length flight = omega (arith, c.if-place-len.false, c.len.ensures, c.self.inside.flight.ok.0) in
    let size : c.len-left.result ≡ length flight = omega (arith, c.len-left.ensures, c.self.inside.flight.ok.0) in
    subst (λ (ms : List Message). s.count ≡ count_by (λ (k : Message). k.time == s.time) ms + cond (m.time == s.time) 1 0)
    (sym (slice_left flight c.hand_over.new.flight.items c.in-Ok.ensures.sends.sends.sent c.deref.result.now c.args.place c.len-left.result within size c.deref.ensures.value c.in-Ok.ensures.sends.sends.appended))
    (left_count flight c.args.place (c.self.inside.horizon + 1) s m within c.index-message.ensures c.self.invariant.soonest)

pub soonest_from-self-inside-requires-clause-within : goal.soonest_from-self-inside-requires-clause-within
soonest_from-self-inside-requires-clause-within c =
    let flight = c.self.inside.flight.items in
    let within : c.args.place < length flight = omega (arith, c.if-place-len.false, c.len.ensures, c.self.inside.flight.ok.0) in
    let size : c.len-left.result ≡ length flight = omega (arith, c.len-left.ensures, c.self.inside.flight.ok.0) in
    left_within flight c.hand_over.new.flight.items c.in-Ok.ensures.sends.sends.sent c.as_slice.result.now c.args.place c.len-left.result within size c.as_slice.ensures.value c.in-Ok.ensures.sends.sends.appended

pub soonest_from-self-inside-requires-clause-times : goal.soonest_from-self-inside-requires-clause-times
soonest_from-self-inside-requires-clause-times c =
    let w = scene_of c.self.inside in
    let within : c.args.place < length w.flight = omega (arith, c.if-place-len.false, c.len.ensures, c.self.inside.flight.ok.0) in
    let new = c.hand_over.new.blocks.items in
    let out = c.hand_over.new.flight.items in
    let law = delivered_lawful w c.self.invariant.law c.args.place c.index-message.result.now within c.index-message.ensures new out c.in-Ok.ensures.others c.in-Ok.ensures.taken c.in-Ok.ensures.lawful c.in-Ok.ensures.sends in
    let P : Message → Type 0 = λ m. m.time ≤ w.horizon + 1 in
    subst (All P) (sym c.as_slice.ensures.value) (flight_within (scene_with w new out) law)

pub invariant_of-self-2 : goal.invariant_of-self-2
invariant_of-self-2 c =
    let w = scene_of c.self.inside in
    let m = c.index-message.result.now in
    let end = c.self.inside.horizon + 1 in
    let within : c.args.place < length w.flight = omega (arith, c.if-place-len.false, c.len.ensures, c.self.inside.flight.ok.0) in
    let new = c.hand_over.new.blocks.items in
    let out = c.hand_over.new.flight.items in
    let given = c.in-Ok.ensures in
    let old_law = c.self.invariant.law in
    let block : m.block < length w.blocks = subst (λ n. m.block < n) (sym old_law.count) (delivered_flies w old_law c.args.place m within c.index-message.ensures).block in
    let here = subst (λ (v : View). IsNextTime v end c.next_of.result) (seen_is new m.block c.index.result.now (subst (λ n. m.block < n) (sym given.others.count) block) c.index.ensures) c.next_of.ensures in
    record {
      law = delivered_lawful w old_law c.args.place m within c.index-message.ensures new out given.others given.taken given.lawful given.sends;
      soonest = subst (λ (ms : List Message). IsSoonest ms end c.soonest_from-self-inside.result) c.as_slice.ensures.value c.soonest_from-self-inside.ensures;
      next = next_kept w.blocks new end m.block c.next_of.result c.self.inside.next.items block given.others c.self.invariant.next here;
    }

pub returns-clause-played : goal.returns-clause-played
returns-clause-played c =
    let w = scene_of c.self.inside in
    let within : c.args.place < length w.flight = omega (arith, c.if-place-len.false, c.len.ensures, c.self.inside.flight.ok.0) in
    let new = c.hand_over.new.blocks.items in
    let out = c.hand_over.new.flight.items in
    let given = c.in-Ok.ensures in
    subst (λ (v : Scene). IsDelivered v (scene_with w new out) c.args.place) c.self.view_is
    (delivered_is w c.self.invariant.law c.args.place c.index-message.result.now within c.index-message.ensures new out given.others given.taken given.lawful given.sends)

pub returns-clause-never_earlier : goal.returns-clause-never_earlier
returns-clause-never_earlier c =
    let w = scene_of c.self.inside in
    let within : c.args.place < length w.flight = omega (arith, c.if-place-len.false, c.len.ensures, c.self.inside.flight.ok.0) in
    let given = c.in-Ok.ensures in
    λ s h. delivered_before w c.self.invariant.law c.args.place c.index-message.result.now within c.index-message.ensures c.hand_over.new.blocks.items c.hand_over.new.flight.items given.others given.taken given.lawful given.sends
    s (subst (λ (v : Scene). IsBefore v s) (sym c.self.view_is) h)
