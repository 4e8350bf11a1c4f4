use Rattle.std.proofs.Common.{◌≡◌, ◌∙◌, ◌∷◌, ◌++◌, [], ℕ, List, option_map, Bor, sym, refl, get_or, take, length, ◌-◌}
use Rattle.std.proofs.lemmas.List.{map-append}
use Rattle.gate_vcd.specs.declared.keyword.Keyword.TheVariants as words
use Rattle.gate_vcd.specs.Declarations.{keyword_of, inner_path}
use Rattle.gate_vcd.specs.Shown.Commands.{variable}
use Rattle.gate_vcd.specs.Shown.Words.{texts}
use Rattle.gate_vcd.proofs.DeclarationLaws.{closed}
use Rattle.gate_vcd.proofs.declarations.declare.Goals as goal

pub returns-in_ok-declared-in-Timescale-clause-header : goal.returns-in_ok-declared-in-Timescale-clause-header
returns-in_ok-declared-in-Timescale-clause-header c h i =
    let k : keyword_of c.args.first.text.now ≡ words.Timescale = sym c.keyword_of.ensures ∙ c.in-Timescale.is in
    (record h { timescale = c.in_ok-declared-in-Timescale.field-0 }, rw (k, c.in_ok-declared-in-Timescale.ensures) refl, record { timescale = refl; scopes = i.scopes; variables = i.variables })

pub returns-in_ok-open-in-Scope-clause-header : goal.returns-in_ok-open-in-Scope-clause-header
returns-in_ok-open-in-Scope-clause-header c h i =
    let k : keyword_of c.args.first.text.now ≡ words.Scope = sym c.keyword_of.ensures ∙ c.in-Scope.is in (
      record h { scopes = h.scopes ++ inner_path h.scopes (get_or (texts c.args.body.now) 1 []) ∷ [] },
      rw k refl,
      record { timescale = i.timescale; scopes = rw (c.in_ok-open-in-Scope.ensures.asked, ← c.scope_name.ensures) (c.in_ok-open-in-Scope.ensures.ok h.scopes i.scopes); variables = i.variables },
    )

pub returns-in-Upscope-clause-header : goal.returns-in-Upscope-clause-header
returns-in-Upscope-clause-header c h i =
    let k : keyword_of c.args.first.text.now ≡ words.Upscope = sym c.keyword_of.ensures ∙ c.in-Upscope.is in
    (record h { scopes = take (length h.scopes - 1) h.scopes }, rw k refl, record { timescale = i.timescale; scopes = rw c.close.ensures.asked (closed (option_map (λ (a : Bor (List ℕ)). a.now) c.args.declared.now.scopes.asked) c.args.declared.now.scopes.ends.items c.close.new.self.ends.items h.scopes i.scopes c.close.ensures.ends); variables = i.variables })

pub returns-in_ok-push-in-Var-clause-header : goal.returns-in_ok-push-in-Var-clause-header
returns-in_ok-push-in-Var-clause-header c h i =
    let k : keyword_of c.args.first.text.now ≡ words.Var = sym c.keyword_of.ensures ∙ c.in-Var.is in
    let v = variable c.in_ok-variable-in-Var.variable in (
      record h { variables = h.variables ++ v ∷ [] },
      rw (k, ← c.are_counted-counted.ensures h.scopes i.scopes, c.in_ok-variable-in-Var.ensures) refl,
      record { timescale = i.timescale; scopes = i.scopes; variables = rw (c.in_ok-push-in-Var.ensures.items, ← i.variables) (map-append variable c.args.declared.now.variables.items (c.in_ok-variable-in-Var.variable ∷ [])) },
    )
