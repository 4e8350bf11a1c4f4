-- A dump's unit of time is at least one of its unit.
use Rattle.std.proofs.Common.{◌≡◌, ℕ, ◌<◌, Bool, true, false, cond, nat_eq, List, [], ◌∷◌, ◌++◌, drop, codes, Option, Some, None, option_map, Result, Ok, Err, refl, subst, arith}
use Rattle.std.proofs.lemmas.Option.{same_Some}
use Rattle.std.specs.List.{concat, starts_with}
use Rattle.gate_vcd.specs.declared.fault.StimFault.{StimFault}
use Rattle.gate_vcd.specs.declared.fault.StimCause.TheVariants as causes
use Rattle.gate_vcd.specs.declared.keyword.Keyword.{Keyword}
use Rattle.gate_vcd.specs.declared.keyword.Keyword.TheVariants as words
use Rattle.gate_stimulus.specs.declared.timescale.Timescale.{Timescale}
use Rattle.gate_stimulus.specs.declared.timescale.Unit.{Unit}
use Rattle.gate_netlist.specs.Bench.{◌>>=◌}
use Rattle.gate_vcd.specs.Reading.{or_fault}
use Rattle.gate_vcd.specs.Tokens.{Token, is_end, fault_at}
use Rattle.gate_vcd.specs.Declarations.{Command, Header, declared, ends_declarations, is_counted, keyword_of, opens_command, scaled, timescale_of, unit_of, variable_of}
use Rattle.vcd_bits.specs.Scopes.{Scoped, after_command, declaring, path_noted}

scaled-counts : (n : ℕ) (o : Option Unit) (t : Timescale) → 0 < n → option_map (λ unit. record { number = n; unit = unit }) o ≡ Some t → 0 < t.number
scaled-counts n None t h e = cc
scaled-counts n (Some u) t h e = let same = same_Some _ t e in subst (λ (x : Timescale). 0 < x.number) same h

timescale-counts : (text : List ℕ) (t : Timescale) → timescale_of text ≡ Some t → 0 < t.number
unfolding timescale_of
timescale-counts text t e = go (starts_with nat_eq text (codes "100")) (starts_with nat_eq text (codes "10")) (starts_with nat_eq text (codes "1")) e
  where
    go : (a b c : Bool) → cond a (scaled 100 (drop 3 text)) (cond b (scaled 10 (drop 2 text)) (cond c (scaled 1 (drop 1 text)) None)) ≡ Some t → 0 < t.number
    go true b c e = scaled-counts 100 (unit_of (drop 3 text)) t (omega arith) e
    go false true c e = scaled-counts 10 (unit_of (drop 2 text)) t (omega arith) e
    go false false true e = scaled-counts 1 (unit_of (drop 1 text)) t (omega arith) e
    go false false false e = cc

abbrev Counts : Header → Type 0
Counts h = 0 < h.timescale.number

same-header : (h new : Header) (r : Result Header StimFault) → r ≡ Ok h → r ≡ Ok new → h ≡ new
same-header h new r a b = cc

timescale-kept : (h new : Header) (o : Option Timescale) (t : Token) → ((x : Timescale) → o ≡ Some x → 0 < x.number) → (or_fault o t causes.BadTimescale >>= λ timescale. Ok (record h { timescale = timescale })) ≡ Ok new → Counts new
timescale-kept h new None t f e = cc
timescale-kept h new (Some x) t f e = let same : record h { timescale = x } ≡ new = cc in subst Counts same (f x refl)

variable-kept : {A : Type 0} (h new : Header) (o : Option A) (t : Token) (f : A → Header) → ((x : A) → Counts (f x)) → (or_fault o t causes.BadVar >>= λ x. Ok (f x)) ≡ Ok new → Counts new
variable-kept h new None t f k e = cc
variable-kept h new (Some x) t f k e = let same : f x ≡ new = cc in subst Counts same (k x)

declared-counts : (h new : Header) (c : Command) (keyword : Keyword) → Counts h → declared None h c keyword ≡ Ok new → Counts new
declared-counts h new c words.Timescale k e = timescale-kept h new (timescale_of (concat c.body)) c.first (timescale-counts (concat c.body)) e
declared-counts h new c words.Scope k e = subst Counts (same-header _ new (declared None h c words.Scope) refl e) k
declared-counts h new c words.Upscope k e = subst Counts (same-header _ new (declared None h c words.Upscope) refl e) k
declared-counts h new c words.Var k e = variable-kept h new (variable_of (is_counted None h.scopes) c.body) c.first (λ v. record h { variables = h.variables ++ v ∷ [] }) (λ x. k) e
declared-counts h new c words.EndDefinitions k e = subst Counts (same-header h new (declared None h c words.EndDefinitions) refl e) k
declared-counts h new c words.Other k e = subst Counts (same-header h new (declared None h c words.Other) refl e) k

abbrev Out : Type 0
Out = Scoped × List Token

pub declaring-counts : (s : Scoped) (c : Option Command) (ts : List Token) (out : Out) → Counts s.header → declaring s c ts ≡ Ok out → Counts out.0.header
unfolding declaring
declaring-counts s None [] out k e = let same : (s, []) ≡ out = cc in subst (λ (x : Out). Counts x.0.header) same k
declaring-counts s (Some c) [] out k e = cc
declaring-counts s None (t ∷ ts) out k e = go (opens_command t.text) e (declaring-counts s (Some (record { first = t; body = [] })) ts out k)
  where
    go : (b : Bool) → cond b (declaring s (Some (record { first = t; body = [] })) ts) (Err (fault_at t causes.BadToken)) ≡ Ok out → (declaring s (Some (record { first = t; body = [] })) ts ≡ Ok out → Counts out.0.header) → Counts out.0.header
    go true e ih = ih e
    go false e ih = cc
declaring-counts s (Some c) (t ∷ ts) out k e =
    go (is_end t.text) e (λ next kn. declaring-counts next None ts out kn) (declaring-counts s (Some (record c { body = c.body ++ t.text ∷ [] })) ts out k)
  where
    ended : (b : Bool) (next : Scoped) → Counts next.header → ((n : Scoped) → Counts n.header → declaring n None ts ≡ Ok out → Counts out.0.header) → cond b (Ok (next, ts)) (declaring next None ts) ≡ Ok out → Counts out.0.header
    ended true next kn ih e = let same : (next, ts) ≡ out = cc in subst (λ (x : Out). Counts x.0.header) same kn
    ended false next kn ih e = ih next kn e

    after : (r : Result Header StimFault) → ((h : Header) → r ≡ Ok h → Counts h) → ((n : Scoped) → Counts n.header → declaring n None ts ≡ Ok out → Counts out.0.header)
        → ((r >>= λ h. Ok (record { header = h; paths = s.paths ++ path_noted (keyword_of c.first.text) s.header.scopes })) >>= λ next. cond (ends_declarations (keyword_of c.first.text)) (Ok (next, ts)) (declaring next None ts)) ≡ Ok out → Counts out.0.header
    after (Ok h) f ih e = ended (ends_declarations (keyword_of c.first.text)) (record { header = h; paths = s.paths ++ path_noted (keyword_of c.first.text) s.header.scopes }) (f h refl) ih e
    after (Err x) f ih e = cc

    go : (b : Bool) → cond b (after_command s c (keyword_of c.first.text) >>= λ next. cond (ends_declarations (keyword_of c.first.text)) (Ok (next, ts)) (declaring next None ts)) (declaring s (Some (record c { body = c.body ++ t.text ∷ [] })) ts) ≡ Ok out
        → ((n : Scoped) → Counts n.header → declaring n None ts ≡ Ok out → Counts out.0.header) → (declaring s (Some (record c { body = c.body ++ t.text ∷ [] })) ts ≡ Ok out → Counts out.0.header) → Counts out.0.header
    go true e ih more = after (declared None s.header c (keyword_of c.first.text)) (λ h x. declared-counts s.header h c (keyword_of c.first.text) k x) ih e
    go false e ih more = more e
