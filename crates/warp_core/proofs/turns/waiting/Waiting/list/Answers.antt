use Rattle.std.proofs.Common.{◌≡◌, ℕ, ◌+◌, ◌<◌, ◌++◌, ◌∷◌, [], List, Vec, Global, length, get_or, map, refl, ap, sym, ◌∙◌, arith}
use Rattle.std.proofs.lemmas.List.{length-set, length-map, length-take-le, map-set, get_or-map}
use Rattle.std.proofs.lemmas.List.Elements.{All-get_or}
use Rattle.gate_values.specs.declared.logic.Logic.TheVariants.{Zero}
use Rattle.warp_process.specs.declared.message.Message.{Message}
use Rattle.warp_process.specs.declared.message.Sign.TheVariants.{Plus}
use Rattle.warp_core.specs.Inner.Turns.{place_in}
use Rattle.warp_core.proofs.Listing.{listed_more}
use Rattle.warp_core.proofs.turns.waiting.Waiting.list.Goals as goal

pub loop-place-preserved : goal.loop-place-preserved
loop-place-preserved c =
    let inv = c.loop-place.invariant in
    let flight = c.args.flight.now in
    let place = c.loop-place.place in
    let none : Message = record { time = 0; block = 0; net = 0; value = Zero; sign = Plus } in
    let lists = c.loop-place.self.lists.items in
    let b = (get_or flight place none).block in
    let within : place < length flight = omega (arith, c.loop-place-test.true) in
    let below = All-get_or (λ (m : Message). m.block < length c.args.heard.now) flight place none within c.requires.blocks in
    let room : b < length lists = (let count = inv.listed.count in omega (arith, count, below)) in
    let vec = c.index_mut.result.now in
    let pushed : c.push.new.self.items ≡ get_or (map (λ (v : Vec ℕ Global). v.items) lists) b [] ++ place ∷ [] =
    c.in_ok-push.ensures.items ∙ ap (λ (ns : List ℕ). ns ++ place ∷ []) (ap (λ (v : Vec ℕ Global). v.items) c.index_mut.ensures.value ∙ sym (get_or-map (λ (v : Vec ℕ Global). v.items) lists b vec [] room)) in
    record {
      listed = record {
        count = length-set lists b c.push.new.self ∙ inv.listed.count;
        size = (let s = length-take-le (place + 1) flight (omega (arith, within)) in omega (arith, s));
        lists = λ k. ap (λ (ls : List (List ℕ)). get_or ls k []) (map-set (λ (v : Vec ℕ Global). v.items) lists b c.push.new.self)
            ∙ listed_more (map (λ (v : Vec ℕ Global). v.items) lists) (place_in c.args.heard.now) flight place b none c.push.new.self.items within refl (inv.from b) (let s = length-map lists (λ (v : Vec ℕ Global). v.items) in omega (arith, s, room)) pushed inv.listed.lists k;
      };
      from = λ k. (let low = inv.from k in omega (arith, low));
    }
