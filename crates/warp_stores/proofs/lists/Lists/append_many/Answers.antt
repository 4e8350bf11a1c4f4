use Rattle.std.proofs.Common.{◌≡◌, ◌<◌, ◌∙◌, List, length, map, ap}
use Rattle.std.specs.List.{All}
use Rattle.std.specs.Prelude.{Vec}
use Rattle.std.specs.declared.alloc.Global.{Global}
use Rattle.std.proofs.lemmas.List.{length-map}
use Rattle.gate_values.specs.declared.logic.Change.{Change}
use Rattle.warp_stores.specs.Shown.Stops.{dated}
use Rattle.warp_stores.specs.Shown.Lists.{lists_of}
use Rattle.warp_stores.proofs.Listing.{within_undated}
use Rattle.warp_stores.proofs.Spanning.{cut_again}
use Rattle.warp_stores.proofs.lists.Lists.append_many.Goals as goal

pub push_spans-requires-clause-within : goal.push_spans-requires-clause-within
push_spans-requires-clause-within c =
    let len : length (lists_of c.self.inside.lists.items) ≡ length c.self.inside.lists.items = length-map c.self.inside.lists.items (λ (v : Vec Change Global). v.items) in
    let all : All (λ d. d.1.place < length (lists_of c.self.inside.lists.items)) (dated c.batch.inside.stops.items c.batch.inside.words.items) = rw (c.self.view_is, c.batch.view_is) c.requires in
    rw c.as_slice-3.ensures.value (within_undated (length c.self.inside.lists.items) c.batch.inside.stops.items c.batch.inside.words.items c.batch.invariant (rw len at all))

pub returns-in-Err-clause-err : goal.returns-in-Err-clause-err
returns-in-Err-clause-err c =
    let lens = c.as_slice-in-Err.ensures.value ∙ c.in_ok-note_lens.ensures ∙ ap (λ (vs : List (Vec Change Global)). map length (lists_of vs)) c.as_slice.ensures.value in
    cut_again c.as_slice-in-Err.result.now (lists_of c.self.inside.lists.items) (lists_of c.push_spans.new.lists.items) (lists_of c.cut_all.new.lists.items) lens c.in-Err.ensures.err c.cut_all.ensures
    ∙ c.self.view_is
