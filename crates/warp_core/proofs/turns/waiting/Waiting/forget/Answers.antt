use Rattle.std.proofs.Common.{ℕ, [], List, Vec, Global, get_or, map, ap, ◌∙◌, arith}
use Rattle.std.proofs.lemmas.List.{map-set, length-map, get_or-set_same, get_or-set_other}
use Rattle.warp_core.proofs.turns.waiting.Waiting.forget.Goals as goal

pub returns-clause-none : goal.returns-clause-none
returns-clause-none c =
    let lists = c.args.self.now.lists.items in
    ap (λ (ls : List (List ℕ)). get_or ls c.args.block []) (map-set (λ (v : Vec ℕ Global). v.items) lists c.args.block c.clear.new.self)
    ∙ (get_or-set_same (map (λ (v : Vec ℕ Global). v.items) lists) c.args.block c.clear.new.self.items [] (let s = length-map lists (λ (v : Vec ℕ Global). v.items) in omega (arith, s, c.requires)) ∙ c.clear.ensures.items)

pub returns-clause-others : goal.returns-clause-others
returns-clause-others c = λ b other.
    (let lists = c.args.self.now.lists.items in
    ap (λ (ls : List (List ℕ)). get_or ls b []) (map-set (λ (v : Vec ℕ Global). v.items) lists c.args.block c.clear.new.self)
    ∙ get_or-set_other (map (λ (v : Vec ℕ Global). v.items) lists) c.args.block b c.clear.new.self.items [] other)
