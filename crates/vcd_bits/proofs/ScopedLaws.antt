-- Laws of the declarations of a dump, a command at a time.
use Rattle.std.proofs.Common.{◌≡◌, ℕ, ◌-◌, true, false, cond, List, [], ◌∷◌, ◌++◌, length, take, get_or, Option, Some, None, option_map, if◌then◌else◌, Result, Ok, Err, IfErr, OnOk, refl, ap, sym, subst, ◌∙◌, arith}
use Rattle.std.proofs.lemmas.List.{append_assoc}
use Rattle.std.proofs.lemmas.Grind.{common_steps}
use Rattle.gate_vcd.specs.declared.fault.StimFault.{StimFault}
use Rattle.gate_vcd.specs.declared.fault.StimCause.TheVariants as causes
use Rattle.gate_vcd.specs.declared.keyword.Keyword.{Keyword}
use Rattle.gate_vcd.specs.declared.keyword.Keyword.TheVariants as words
use Rattle.gate_vcd.specs.Tokens.{Token, is_end, fault_at}
use Rattle.gate_netlist.specs.Bench.{◌>>=◌}
use Rattle.gate_vcd.specs.Reading.{or_fault, Fails}
use Rattle.gate_vcd.specs.Declarations.{Header, declared, ends_declarations, inner_path, keyword_of, opens_command, timescale_of, variable_of, is_counted}
use Rattle.std.specs.List.{concat}
use Rattle.gate_vcd.specs.Faults.{out_of_memory}
use Rattle.gate_vcd.specs.Shown.Commands.{has_texts, until_end, rest_of_command}
use Rattle.gate_vcd.proofs.DeclarationLaws.{fails_then}
use Rattle.vcd_bits.specs.Scopes.{Scoped, after_command, declaring, path_noted}
use Rattle.vcd_bits.specs.declared.scoped.Scoped.{Scoped as Held}
use Rattle.vcd_bits.specs.Inner.Held.{Notes, scopes_after}
use Rattle.vcd_bits.specs.Shown.Held.{texts_in}
use Rattle.vcd_bits.specs.Inner.Paths.{IsOpen}

-- what follows a command that is whole
abbrev pub goes_after : Scoped → Token → List (List ℕ) → List Token → Result (Scoped × List Token) StimFault
goes_after s first body ts = after_command s (record { first = first; body = body }) (keyword_of first.text) >>= λ next. if ends_declarations (keyword_of first.text) then Ok (next, ts) else declaring next None ts

abbrev with_first : List ℕ → List (List ℕ) × List Token → List (List ℕ) × List Token
with_first text x = (text ∷ x.0, x.1)

abbrev the_end : List Token → List (List ℕ) × List Token
the_end ts = ([], ts)

rest_after : (s : Scoped) (first : Token) (body : List (List ℕ)) (text : List ℕ) (found : Option (List (List ℕ) × List Token))
    → (or_fault found first causes.UnclosedCommand >>= λ x. goes_after s first ((body ++ text ∷ []) ++ x.0) x.1)
    ≡ (or_fault (option_map (with_first text) found) first causes.UnclosedCommand >>= λ x. goes_after s first (body ++ x.0) x.1)
rest_after s first body text None = refl
rest_after s first body text (Some x) = ap (λ b. goes_after s first b x.1) (append_assoc body (text ∷ []) x.0)

append-nil : (xs : List (List ℕ)) → xs ++ [] ≡ xs
append-nil xs = grind (arith, common_steps)

in_command : (s : Scoped) (first : Token) (body : List (List ℕ)) (ts : List Token)
    → declaring s (Some (record { first = first; body = body })) ts ≡ (rest_of_command first ts >>= λ x. goes_after s first (body ++ x.0) x.1)
unfolding declaring
in_command s first body [] = refl
in_command s first body (t ∷ ts) =
    elim (is_end t.text) as (λ b. cond b (goes_after s first body ts) (declaring s (Some (record { first = first; body = body ++ t.text ∷ [] })) ts)
    ≡ (or_fault (cond b (Some (the_end ts)) (option_map (with_first t.text) (until_end ts))) first causes.UnclosedCommand >>= λ x. goes_after s first (body ++ x.0) x.1)) [
      | true ↦ ap (λ xs. goes_after s first xs ts) (sym (append-nil body))
      | false ↦ in_command s first (body ++ t.text ∷ []) ts ∙ rest_after s first body t.text (until_end ts)
    ]

-- a command is read whole
pub declaring-command : (s : Scoped) (t : Token) (ts : List Token) → opens_command t.text ≡ true → declaring s None (t ∷ ts) ≡ (rest_of_command t ts >>= λ x. goes_after s t x.0 x.1)
unfolding declaring
declaring-command s t ts o = rw o (in_command s t [] ts)

pub declaring-bad : (s : Scoped) (t : Token) (ts : List Token) → opens_command t.text ≡ false → declaring s None (t ∷ ts) ≡ Err (fault_at t causes.BadToken)
unfolding declaring
declaring-bad s t ts o = rw o refl

-- the ways that a command goes
module _ (s : Scoped) (t : Token) (ts : List Token) where
  pub command_fails : (e : StimFault) → opens_command t.text ≡ true → Fails e (rest_of_command t ts) → Fails e (declaring s None (t ∷ ts))
  command_fails e o f = rw (declaring-command s t ts o) (fails_then e (rest_of_command t ts) (λ x. goes_after s t x.0 x.1) f)

  pub effect_fails : (e : StimFault) (body : List (List ℕ)) (rest : List Token) → opens_command t.text ≡ true → rest_of_command t ts ≡ Ok (body, rest)
      → Fails e (declared None s.header (record { first = t; body = body }) (keyword_of t.text)) → Fails e (declaring s None (t ∷ ts))
  effect_fails e body rest o r f =
      rw (declaring-command s t ts o, r)
      (fails_then e (after_command s (record { first = t; body = body }) (keyword_of t.text)) (λ next. if ends_declarations (keyword_of t.text) then Ok (next, rest) else declaring next None rest)
      (fails_then e (declared None s.header (record { first = t; body = body }) (keyword_of t.text)) (λ h. Ok (record { header = h; paths = s.paths ++ path_noted (keyword_of t.text) s.header.scopes })) f))

  pub command_goes_on : (h : Header) (body : List (List ℕ)) (rest : List Token) → opens_command t.text ≡ true → rest_of_command t ts ≡ Ok (body, rest)
      → declared None s.header (record { first = t; body = body }) (keyword_of t.text) ≡ Ok h
      → declaring s None (t ∷ ts) ≡ (if ends_declarations (keyword_of t.text) then Ok (record { header = h; paths = s.paths ++ path_noted (keyword_of t.text) s.header.scopes }, rest) else declaring (record { header = h; paths = s.paths ++ path_noted (keyword_of t.text) s.header.scopes }) None rest)
  command_goes_on h body rest o r d = rw (declaring-command s t ts o, r, d) refl

-- no token is left between two commands
pub declaring-end : (s start : Scoped) (ts rest first : List Token) → ts ≡ [] → rest ≡ [] → declaring s None ts ≡ declaring start None first → declaring start None first ≡ Ok (s, rest)
unfolding declaring
declaring-end s start ts rest first e r d = rw r (sym d ∙ rw e refl)

or_same : {A : Type 0} (o : Option A) (t : Token) (scopes : List (List ℕ)) (f : A → Header) (h : Header) → ((x : A) → (f x).scopes ≡ scopes) → (or_fault o t causes.BadTimescale >>= λ x. Ok (f x)) ≡ Ok h → h.scopes ≡ scopes
or_same None t scopes f h g e = cc
or_same (Some x) t scopes f h g e = let is : f x ≡ h = cc in ap (λ (y : Header). y.scopes) (sym is) ∙ g x

or_same_var : {A : Type 0} (o : Option A) (t : Token) (scopes : List (List ℕ)) (f : A → Header) (h : Header) → ((x : A) → (f x).scopes ≡ scopes) → (or_fault o t causes.BadVar >>= λ x. Ok (f x)) ≡ Ok h → h.scopes ≡ scopes
or_same_var None t scopes f h g e = cc
or_same_var (Some x) t scopes f h g e = let is : f x ≡ h = cc in ap (λ (y : Header). y.scopes) (sym is) ∙ g x

ok_is : (r : Result Header StimFault) (x y : Header) → r ≡ Ok x → r ≡ Ok y → x ≡ y
ok_is r x y a b = cc

-- the scopes that a command leaves open
pub scopes-declared : (h new : Header) (first : Token) (body : List (List ℕ)) (keyword : Keyword) → declared None h (record { first = first; body = body }) keyword ≡ Ok new → new.scopes ≡ scopes_after keyword body h.scopes
scopes-declared h new first body words.Timescale e = or_same (timescale_of (concat body)) first h.scopes (λ t. record h { timescale = t }) new (λ x. refl) e
scopes-declared h new first body words.Scope e = ap (λ (y : Header). y.scopes) (sym (ok_is (declared None h (record { first = first; body = body }) words.Scope) (record h { scopes = h.scopes ++ inner_path h.scopes (get_or body 1 []) ∷ [] }) new refl e))
scopes-declared h new first body words.Upscope e = ap (λ (y : Header). y.scopes) (sym (ok_is (declared None h (record { first = first; body = body }) words.Upscope) (record h { scopes = take (length h.scopes - 1) h.scopes }) new refl e))
scopes-declared h new first body words.Var e = or_same_var (variable_of (is_counted None h.scopes) body) first h.scopes (λ v. record h { variables = h.variables ++ v ∷ [] }) new (λ x. refl) e
scopes-declared h new first body words.EndDefinitions e = ap (λ (y : Header). y.scopes) (sym (ok_is (declared None h (record { first = first; body = body }) words.EndDefinitions) (h) new refl e))
scopes-declared h new first body words.Other e = ap (λ (y : Header). y.scopes) (sym (ok_is (declared None h (record { first = first; body = body }) words.Other) (h) new refl e))

texts-nil : (xs : List (List ℕ)) → xs ≡ xs ++ []
texts-nil xs = grind (arith, common_steps)

-- a scope is opened
pub noted-scope : (old new : Held) (body : List (List ℕ)) (name : List ℕ) (r : Result (Unit {0}) StimFault) → name ≡ get_or body 1 [] → ((scopes : List (List ℕ)) → IsOpen old.open scopes → OnOk r (IsOpen new.open (scopes ++ inner_path scopes name ∷ []))) → IfErr r (λ e. e ≡ out_of_memory)
    → texts_in new.paths.items ≡ texts_in old.paths.items → Notes words.Scope body old new r
noted-scope old new body name (Ok u) e opens fails same = λ scopes is. (subst (λ (n : List ℕ). IsOpen new.open (scopes ++ inner_path scopes n ∷ [])) e (opens scopes is), same ∙ texts-nil (texts_in old.paths.items))
noted-scope old new body name (Err f) e opens fails same = fails

-- a command that isn't about its texts leaves the same scopes
pub scopes-alike : (keyword : Keyword) (body all scopes : List (List ℕ)) → (has_texts keyword ≡ true → body ≡ all) → scopes_after keyword body scopes ≡ scopes_after keyword all scopes
scopes-alike words.Timescale body all scopes h = refl
scopes-alike words.Scope body all scopes h = rw (h refl) refl
scopes-alike words.Upscope body all scopes h = refl
scopes-alike words.Var body all scopes h = refl
scopes-alike words.EndDefinitions body all scopes h = refl
scopes-alike words.Other body all scopes h = refl
