use Rattle.std.proofs.Common.{◌≡◌, ◌<◌, ◌∙◌, length, take, ap, arith}
use Rattle.std.specs.List.{All}
use Rattle.std.specs.Prelude.{Vec}
use Rattle.std.specs.declared.alloc.Global.{Global}
use Rattle.std.proofs.lemmas.List.{length-map}
use Rattle.std.proofs.lemmas.List.Elements.{All-take}
use Rattle.gate_values.specs.declared.logic.Change.{Change}
use Rattle.warp_stores.specs.Words.{Move}
use Rattle.warp_stores.specs.Shown.Stops.{dated}
use Rattle.warp_stores.specs.Inner.Lists.{ArePut}
use Rattle.warp_stores.specs.Shown.Lists.{lists_of}
use Rattle.warp_stores.proofs.Listing.{within_undated, shorter_again}
use Rattle.warp_stores.proofs.lists.Lists.append_few.Goals as goal

pub push_batch-requires-clause-within : goal.push_batch-requires-clause-within
push_batch-requires-clause-within c =
    let len : length (lists_of c.self.inside.lists.items) ≡ length c.self.inside.lists.items = length-map c.self.inside.lists.items (λ (v : Vec Change Global). v.items) in
    let all : All (λ d. d.1.place < length (lists_of c.self.inside.lists.items)) (dated c.batch.inside.stops.items c.batch.inside.words.items) = rw (c.self.view_is, c.batch.view_is) c.requires in
    rw c.as_slice-2.ensures.value (within_undated (length c.self.inside.lists.items) c.batch.inside.stops.items c.batch.inside.words.items c.batch.invariant (rw len at all))

pub pop_all-requires : goal.pop_all-requires
pop_all-requires c =
    let items = λ (v : Vec Change Global). v.items in
    let len : length (lists_of c.self.inside.lists.items) ≡ length c.self.inside.lists.items = length-map c.self.inside.lists.items items in
    let len' : length (lists_of c.push_batch.new.lists.items) ≡ length c.push_batch.new.lists.items = length-map c.push_batch.new.lists.items items in
    let put : ArePut c.in-Err.pushed c.as_slice-2.result.now (lists_of c.self.inside.lists.items) (lists_of c.push_batch.new.lists.items) = c.in-Err.ensures.err in
    let same : length c.push_batch.new.lists.items ≡ length c.self.inside.lists.items = omega (arith, put.longer.same, len, len') in
    let all : All (λ d. d.1.place < length (lists_of c.self.inside.lists.items)) (dated c.batch.inside.stops.items c.batch.inside.words.items) = rw (c.self.view_is, c.batch.view_is) c.requires in
    rw (same, c.deref.ensures.value) (All-take (λ (w : Move). w.place < length c.self.inside.lists.items) c.in-Err.pushed c.batch.inside.words.items (within_undated (length c.self.inside.lists.items) c.batch.inside.stops.items c.batch.inside.words.items c.batch.invariant (rw len at all)))

-- those that were put are taken back
pub returns-in-Err-clause-err : goal.returns-in-Err-clause-err
returns-in-Err-clause-err c =
    let put : ArePut c.in-Err.pushed c.as_slice-2.result.now (lists_of c.self.inside.lists.items) (lists_of c.push_batch.new.lists.items) = c.in-Err.ensures.err in
    shorter_again put.put (take c.in-Err.pushed c.batch.inside.words.items) (lists_of c.self.inside.lists.items) (lists_of c.push_batch.new.lists.items) (lists_of c.pop_all.new.lists.items) (put.are ∙ ap (take c.in-Err.pushed) c.as_slice-2.ensures.value) put.longer (rw c.deref.ensures.value at c.pop_all.ensures)
    ∙ c.self.view_is
