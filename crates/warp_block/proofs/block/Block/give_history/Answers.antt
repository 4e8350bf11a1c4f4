use Rattle.std.proofs.Common.{◌≡◌, List, Vec, length, ◌∙◌, ap, sym, subst, arith}
use Rattle.std.proofs.lemmas.List.{length-map}
use Rattle.std.specs.declared.alloc.Global.{Global}
use Rattle.gate_values.specs.declared.logic.Change.{Change}
use Rattle.net_waves.specs.Waves.{lists_in}
use Rattle.warp_part.specs.Portion.{Portion}
use Rattle.warp_process.specs.View.{View}
use Rattle.warp_block.specs.Inner.Give.{AreGiven}
use Rattle.warp_process.proofs.Rows.{logs_len}
use Rattle.warp_block.proofs.Giving.{given_own, given_others}
use Rattle.warp_block.proofs.block.Block.give_history.Goals as goal

pub give-requires-clause-places : goal.give-requires-clause-places
give-requires-clause-places c = rw (c.into_part-part.ensures ∙ ap (λ (v : View). v.part) c.end-heard.ensures.heard) (rw (← c.self.view_is) at c.requires.places)

pub returns-clause-own : goal.returns-clause-own
returns-clause-own c =
    let seen : View = c.self.inside.kernel.seen in
    let old = lists_in c.args.lists.now.items in
    let new = lists_in c.give.new.lists.items in
    let logs : lists_in c.into_vec.result.items ≡ seen.logs = c.into_vec.ensures ∙ c.self.invariant in
    let given = subst (λ (p : Portion). AreGiven p seen.logs (length p.nets) old new) (c.into_part-part.ensures ∙ ap (λ (v : View). v.part) c.end-heard.ensures.heard)
    (subst (λ (ls : List (List Change)). AreGiven c.into_part-part.result ls (length c.into_part-part.result.nets) old new) logs c.give.ensures.given) in
    rw (← c.self.view_is) (given_own seen c.law.ensures.seen.part.ascending old new given)

pub returns-clause-others : goal.returns-clause-others
returns-clause-others c =
    let seen : View = c.self.inside.kernel.seen in
    let old = lists_in c.args.lists.now.items in
    let new = lists_in c.give.new.lists.items in
    let logs : lists_in c.into_vec.result.items ≡ seen.logs = c.into_vec.ensures ∙ c.self.invariant in
    let given = subst (λ (p : Portion). AreGiven p seen.logs (length p.nets) old new) (c.into_part-part.ensures ∙ ap (λ (v : View). v.part) c.end-heard.ensures.heard)
    (subst (λ (ls : List (List Change)). AreGiven c.into_part-part.result ls (length c.into_part-part.result.nets) old new) logs c.give.ensures.given) in
    rw (← c.self.view_is) (given_others seen c.law.ensures.seen.part.ascending old new given)

pub returns-in_err-history-clause-own : goal.returns-in_err-history-clause-own
returns-in_err-history-clause-own c =
    let seen : View = c.self.inside.kernel.seen in
    let old = lists_in c.args.lists.now.items in
    let new = lists_in c.give.new.lists.items in
    let logs : lists_in c.into_vec.result.items ≡ seen.logs = c.into_vec.ensures ∙ c.self.invariant in
    let given = subst (λ (p : Portion). AreGiven p seen.logs (length p.nets) old new) (c.into_part-part.ensures ∙ ap (λ (v : View). v.part) c.end-heard.ensures.heard)
    (subst (λ (ls : List (List Change)). AreGiven c.into_part-part.result ls (length c.into_part-part.result.nets) old new) logs c.give.ensures.given) in
    rw (← c.self.view_is) (given_own seen c.law.ensures.seen.part.ascending old new given)

pub returns-in_err-history-clause-others : goal.returns-in_err-history-clause-others
returns-in_err-history-clause-others c =
    let seen : View = c.self.inside.kernel.seen in
    let old = lists_in c.args.lists.now.items in
    let new = lists_in c.give.new.lists.items in
    let logs : lists_in c.into_vec.result.items ≡ seen.logs = c.into_vec.ensures ∙ c.self.invariant in
    let given = subst (λ (p : Portion). AreGiven p seen.logs (length p.nets) old new) (c.into_part-part.ensures ∙ ap (λ (v : View). v.part) c.end-heard.ensures.heard)
    (subst (λ (ls : List (List Change)). AreGiven c.into_part-part.result ls (length c.into_part-part.result.nets) old new) logs c.give.ensures.given) in
    rw (← c.self.view_is) (given_others seen c.law.ensures.seen.part.ascending old new given)

pub give-requires-clause-logs : goal.give-requires-clause-logs
give-requires-clause-logs c =
    let seen : View = c.self.inside.kernel.seen in
    let logs : lists_in c.into_vec.result.items ≡ seen.logs = c.into_vec.ensures ∙ c.self.invariant in
    let many : length c.into_vec.result.items ≡ length seen.part.nets = sym (length-map c.into_vec.result.items (λ (v : Vec Change Global). v.items)) ∙ ap length logs ∙ logs_len seen c.law.ensures.seen in
    omega (arith, many, ap (λ (p : Portion). length p.nets) (c.into_part-part.ensures ∙ ap (λ (v : View). v.part) c.end-heard.ensures.heard), c.into_vec.result.ok.0)
