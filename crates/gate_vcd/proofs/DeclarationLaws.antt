-- Laws of the declarations, a command at a time.
use Rattle.std.proofs.Common.{◌≡◌, ℕ, ◌-◌, true, false, cond, inl, inr, List, [], ◌∷◌, ◌++◌, map, length, take, Option, Some, None, option_map, unwrap_or, if◌then◌else◌, Result, Ok, Err, refl, ap, sym, ◌∙◌, arith}
use Rattle.std.proofs.lemmas.List.{length-map, append_assoc, take-map}
use Rattle.std.proofs.lemmas.Grind.{common_steps}
use Rattle.gate_vcd.specs.declared.fault.StimFault.{StimFault}
use Rattle.gate_vcd.specs.declared.fault.StimCause.TheVariants as causes
use Rattle.gate_vcd.specs.Tokens.{Token, is_end, fault_at}
use Rattle.gate_netlist.specs.Bench.{◌>>=◌}
use Rattle.gate_vcd.specs.Reading.{or_fault, Fails}
use Rattle.gate_vcd.specs.Declarations.{Header, declared, declaring, keyword_of, opens_command, ends_declarations}
use Rattle.gate_vcd.specs.declared.keyword.Keyword.{Keyword}
use Rattle.gate_vcd.specs.declared.keyword.Keyword.TheVariants as words
use Rattle.gate_vcd.specs.Shown.Commands.{has_texts, until_end, rest_of_command}
use Rattle.gate_vcd.specs.Shown.Scopes.{along, AreAlong}

-- the innermost scope closes
pub closed : (asked : Option (List ℕ)) (ends new : List (Option ℕ)) (scopes : List (List ℕ)) → AreAlong asked ends scopes → new ≡ take (length ends - 1) ends → AreAlong asked new (take (length scopes - 1) scopes)
closed asked ends new scopes h e = e ∙ rw h (ap (λ n. take (n - 1) (map (along (unwrap_or asked [])) scopes)) (length-map scopes (along (unwrap_or asked []))) ∙ take-map (along (unwrap_or asked [])) (length scopes - 1) scopes)

-- what follows a command that is whole
abbrev pub after_command : Option (List ℕ) → Header → Token → List (List ℕ) → List Token → Result (Header × List Token) StimFault
after_command asked h first body ts = declared asked h (record { first = first; body = body }) (keyword_of first.text) >>= λ next. if ends_declarations (keyword_of first.text) then Ok (next, ts) else declaring asked next None ts

abbrev with_first : List ℕ → List (List ℕ) × List Token → List (List ℕ) × List Token
with_first text x = (text ∷ x.0, x.1)

abbrev the_end : List Token → List (List ℕ) × List Token
the_end ts = ([], ts)

rest_after : (asked : Option (List ℕ)) (h : Header) (first : Token) (body : List (List ℕ)) (text : List ℕ) (found : Option (List (List ℕ) × List Token))
    → (or_fault found first causes.UnclosedCommand >>= λ x. after_command asked h first ((body ++ text ∷ []) ++ x.0) x.1)
    ≡ (or_fault (option_map (with_first text) found) first causes.UnclosedCommand >>= λ x. after_command asked h first (body ++ x.0) x.1)
rest_after asked h first body text None = refl
rest_after asked h first body text (Some x) = ap (λ b. after_command asked h first b x.1) (append_assoc body (text ∷ []) x.0)

append-nil : (xs : List (List ℕ)) → xs ++ [] ≡ xs
append-nil xs = grind (arith, common_steps)

in_command : (asked : Option (List ℕ)) (h : Header) (first : Token) (body : List (List ℕ)) (ts : List Token)
    → declaring asked h (Some (record { first = first; body = body })) ts ≡ (rest_of_command first ts >>= λ x. after_command asked h first (body ++ x.0) x.1)
unfolding declaring
in_command asked h first body [] = refl
in_command asked h first body (t ∷ ts) =
    elim (is_end t.text) as (λ b. cond b (after_command asked h first body ts) (declaring asked h (Some (record { first = first; body = body ++ t.text ∷ [] })) ts)
    ≡ (or_fault (cond b (Some (the_end ts)) (option_map (with_first t.text) (until_end ts))) first causes.UnclosedCommand >>= λ x. after_command asked h first (body ++ x.0) x.1)) [
      | true ↦ ap (λ xs. after_command asked h first xs ts) (sym (append-nil body))
      | false ↦ in_command asked h first (body ++ t.text ∷ []) ts ∙ rest_after asked h first body t.text (until_end ts)
    ]

-- a command is read whole
pub declaring-command : (asked : Option (List ℕ)) (h : Header) (t : Token) (ts : List Token) → opens_command t.text ≡ true → declaring asked h None (t ∷ ts) ≡ (rest_of_command t ts >>= λ x. after_command asked h t x.0 x.1)
unfolding declaring
declaring-command asked h t ts o = rw o (in_command asked h t [] ts)

pub declaring-bad : (asked : Option (List ℕ)) (h : Header) (t : Token) (ts : List Token) → opens_command t.text ≡ false → declaring asked h None (t ∷ ts) ≡ Err (fault_at t causes.BadToken)
unfolding declaring
declaring-bad asked h t ts o = rw o refl

-- a fault stays one in what is read of it
pub fails_then : {A B : Type 0} (e : StimFault) (r : Result A StimFault) (f : A → Result B StimFault) → Fails e r → Fails e (r >>= f)
fails_then e r f (inl m) = inl m
fails_then e r f (inr h) = inr (rw h refl)

-- the three ways that a command goes
module _ (asked : Option (List ℕ)) (h : Header) (t : Token) (ts : List Token) where
  pub command_fails : (e : StimFault) → opens_command t.text ≡ true → Fails e (rest_of_command t ts) → Fails e (declaring asked h None (t ∷ ts))
  command_fails e o f = rw (declaring-command asked h t ts o) (fails_then e (rest_of_command t ts) (λ x. after_command asked h t x.0 x.1) f)

  pub effect_fails : (e : StimFault) (body : List (List ℕ)) (rest : List Token) → opens_command t.text ≡ true → rest_of_command t ts ≡ Ok (body, rest)
      → Fails e (declared asked h (record { first = t; body = body }) (keyword_of t.text)) → Fails e (declaring asked h None (t ∷ ts))
  effect_fails e body rest o r f =
      rw (declaring-command asked h t ts o, r)
      (fails_then e (declared asked h (record { first = t; body = body }) (keyword_of t.text)) (λ next. if ends_declarations (keyword_of t.text) then Ok (next, rest) else declaring asked next None rest) f)

  pub command_goes_on : (next : Header) (body : List (List ℕ)) (rest : List Token) → opens_command t.text ≡ true → rest_of_command t ts ≡ Ok (body, rest)
      → declared asked h (record { first = t; body = body }) (keyword_of t.text) ≡ Ok next
      → declaring asked h None (t ∷ ts) ≡ (if ends_declarations (keyword_of t.text) then Ok (next, rest) else declaring asked next None rest)
  command_goes_on next body rest o r d = rw (declaring-command asked h t ts o, r, d) refl

-- no token is left between two commands
pub declaring-end : (asked asked' : Option (List ℕ)) (h start : Header) (ts rest first : List Token) → asked ≡ asked' → ts ≡ [] → rest ≡ [] → declaring asked h None ts ≡ declaring asked start None first → declaring asked' start None first ≡ Ok (h, rest)
unfolding declaring
declaring-end asked asked' h start ts rest first a e r d = rw (← a, r) (sym d ∙ rw e refl)

abbrev behind : List (List ℕ) → List (List ℕ) × List Token → List (List ℕ) × List Token
behind front x = (front ++ x.0, x.1)

abbrev some_rest : List (List ℕ) → List Token → Option (List (List ℕ) × List Token)
some_rest body rest = Some (body, rest)

-- the end of a command is the same for tokens and those left of them, but for the texts between
pub record EndsAlike (left all : List Token) : Type 0 where
  pub front : List (List ℕ)
  pub ends : until_end all ≡ option_map (behind front) (until_end left)

pub alike-start : (ts : List Token) → EndsAlike ts ts
alike-start ts = record { front = []; ends = elim (until_end ts) as (λ o. o ≡ option_map (behind []) o) [ None ↦ refl | Some x ↦ refl ] }

pub alike-next : (t : Token) (left rest all : List Token) → is_end t.text ≡ false → left ≡ t ∷ rest → EndsAlike left all → EndsAlike rest all
alike-next t left rest all goes is alike = record { front = alike.front ++ t.text ∷ []; ends = alike.ends ∙ rw (is, goes) (go (until_end rest)) }
  where
    go : (o : Option (List (List ℕ) × List Token)) → option_map (behind alike.front) (option_map (with_first t.text) o) ≡ option_map (behind (alike.front ++ t.text ∷ [])) o
    go None = refl
    go (Some x) = ap (λ b. some_rest b x.1) (sym (append_assoc alike.front (t.text ∷ []) x.0))

pub alike-found : (first t : Token) (left rest all : List Token) → is_end t.text ≡ true → left ≡ t ∷ rest → EndsAlike left all → (body : List (List ℕ)) × (rest_of_command first all ≡ Ok (body, rest))
alike-found first t left rest all stops is alike = (alike.front ++ [], rw (alike.ends, is, stops) refl)

pub alike-none : (first : Token) (left all : List Token) → left ≡ [] → EndsAlike left all → rest_of_command first all ≡ Err (fault_at first causes.UnclosedCommand)
alike-none first left all is alike = rw (alike.ends, is) refl

-- a command that isn't about its texts
pub declared-alike : (asked : Option (List ℕ)) (h : Header) (first : Token) (body all : List (List ℕ)) (keyword : Keyword) → (has_texts keyword ≡ true → body ≡ all)
    → declared asked h (record { first = first; body = body }) keyword ≡ declared asked h (record { first = first; body = all }) keyword
declared-alike asked h first body all words.Timescale same = rw (same refl) refl
declared-alike asked h first body all words.Scope same = rw (same refl) refl
declared-alike asked h first body all words.Upscope same = refl
declared-alike asked h first body all words.Var same = rw (same refl) refl
declared-alike asked h first body all words.EndDefinitions same = refl
declared-alike asked h first body all words.Other same = refl
