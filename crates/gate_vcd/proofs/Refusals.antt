-- No stimulus text is refused for want of memory.
use Rattle.std.proofs.Common.{◌≡◌, ℕ, zero, suc, Bool, true, false, cond, nat_lt, List, [], ◌∷◌, ◌++◌, drop, Option, Some, None, Result, Ok, Err, IfErr, if◌then◌else◌}
use Rattle.std.specs.List.{list_any, concat}
use Rattle.gate_netlist.specs.Circuit.{Design, nets_of, driver_of, name_of, is_input}
use Rattle.gate_vcd.specs.declared.fault.StimFault.{StimFault}
use Rattle.gate_vcd.specs.declared.fault.StimCause.{StimCause}
use Rattle.gate_vcd.specs.declared.fault.StimCause.TheVariants.{BadVar, BadTimescale, MissingInput, NotScalar, Memory}
use Rattle.gate_vcd.specs.declared.form.Form.{Form}
use Rattle.gate_vcd.specs.declared.form.Form.TheVariants as forms
use Rattle.gate_vcd.specs.declared.keyword.Keyword.{Keyword}
use Rattle.gate_vcd.specs.declared.keyword.Keyword.TheVariants as words
use Rattle.gate_vcd.specs.Tokens.{Token, tokens_of, is_end}
use Rattle.gate_netlist.specs.Bench.{◌>>=◌}
use Rattle.gate_vcd.specs.Reading.{or_fault}
use Rattle.text_numbers.specs.Numbers.{number}
use Rattle.gate_vcd.specs.Declarations.{Header, Command, Variable, no_header, keyword_of, timescale_of, variable_of, is_counted, declared, ends_declarations, opens_command, declaring}
use Rattle.gate_vcd.specs.Changes.{Source, Item, stamp, change, wrong, Awaited, nothing, code_of, end_of, form_of, item_by, items, stamped, events_from}
use Rattle.gate_stimulus.specs.Given.{last_stamp}
use Rattle.gate_vcd.specs.Inputs.{is_named_for, source_of, source_or_fault, source_of_net, sources_below}
use Rattle.gate_vcd.specs.Stimulus.{has_code, reading_of}
use Rattle.gate_vcd.specs.Refusals.{IsOfStimulus}

-- a cause that a text can have
abbrev IsOfText : StimCause → Type 0
IsOfText cause = cause ≡ Memory → ⊥

if-refused : {X : Type 0} (b : Bool) (x y : Result X StimFault) → IfErr x IsOfStimulus → IfErr y IsOfStimulus → IfErr (cond b x y) IsOfStimulus
if-refused true x y h k = h
if-refused false x y h k = k

-- what is refused for its first step, or for what follows
then-refused : {A B : Type 0} (r : Result A StimFault) (f : A → Result B StimFault) → IfErr r IsOfStimulus → ((x : A) → IfErr (f x) IsOfStimulus) → IfErr (r >>= f) IsOfStimulus
then-refused (Ok x) f h k = k x
then-refused (Err e) f h k = h

or_fault-refused : {A : Type 0} (o : Option A) (t : Token) (cause : StimCause) → IsOfText cause → IfErr (or_fault o t cause) IsOfStimulus
or_fault-refused (Some x) t cause h = tt
or_fault-refused None t cause h = h

-- ---- declarations

declared-refused : (asked : Option (List ℕ)) (h : Header) (c : Command) (word : Keyword) → IfErr (declared asked h c word) IsOfStimulus
declared-refused asked h c words.Timescale = then-refused _ _ (or_fault-refused (timescale_of (concat c.body)) c.first BadTimescale (λ e. cc)) (λ timescale. tt)
declared-refused asked h c words.Scope = tt
declared-refused asked h c words.Upscope = tt
declared-refused asked h c words.Var = then-refused _ _ (or_fault-refused (variable_of (is_counted asked h.scopes) c.body) c.first BadVar (λ e. cc)) (λ variable. tt)
declared-refused asked h c words.EndDefinitions = tt
declared-refused asked h c words.Other = tt

declaring-refused : (asked : Option (List ℕ)) (h : Header) (c : Option Command) (ts : List Token) → IfErr (declaring asked h c ts) IsOfStimulus
unfolding declaring
declaring-refused asked h None [] = tt
declaring-refused asked h (Some c) [] = λ e. cc
declaring-refused asked h None (t ∷ ts) =
    if-refused (opens_command t.text) _ _ (declaring-refused asked h (Some (record { first = t; body = [] })) ts) (λ e. cc)
declaring-refused asked h (Some c) (t ∷ ts) =
    if-refused (is_end t.text) _ _
    (then-refused (declared asked h c (keyword_of c.first.text)) _ (declared-refused asked h c (keyword_of c.first.text))
    (λ next. if-refused (ends_declarations (keyword_of c.first.text)) _ _ tt (declaring-refused asked next None ts)))
    (declaring-refused asked h (Some (record c { body = c.body ++ t.text ∷ [] })) ts)

-- ---- changes

-- what may not stand among the changes is refused for a cause of the text
AreItems : List Item → Type 0
AreItems [] = Unit {0}
AreItems (wrong t cause ∷ is) = IsOfText cause × AreItems is
AreItems (i ∷ is) = AreItems is

item_by-items : (t : Token) (form : Form) (next : Awaited → List Item) → ((awaited : Awaited) → AreItems (next awaited)) → AreItems (item_by t form next)
unfolding AreItems
item_by-items t forms.Stamp next h = h nothing
item_by-items t forms.Scalar next h = h nothing
item_by-items t forms.Vector next h = h (code_of t (Some (drop 1 t.text)))
item_by-items t forms.Unvalued next h = h (code_of t None)
item_by-items t forms.Mark next h = h nothing
item_by-items t forms.Command next h = h (end_of t)
item_by-items t forms.Bad next h = ((λ e. cc), tt)

items-items : (awaited : Awaited) (ts : List Token) → AreItems (items awaited ts)
unfolding items AreItems
items-items nothing [] = tt
items-items (code_of first value) [] = ((λ e. cc), tt)
items-items (end_of first) [] = ((λ e. cc), tt)
items-items nothing (t ∷ ts) = item_by-items t (form_of t.text) _ (λ awaited. items-items awaited ts)
items-items (code_of first value) (t ∷ ts) = items-items nothing ts
items-items (end_of first) (t ∷ ts) = items-items (if is_end t.text then nothing else end_of first) ts

stamped-refused : (t : Token) (now : ℕ) → IfErr (stamped t now) IsOfStimulus
stamped-refused t now = if-refused (nat_lt last_stamp (number (drop 1 t.text))) _ _ (λ e. cc) (if-refused (nat_lt (number (drop 1 t.text)) now) _ _ (λ e. cc) tt)

events-refused : (is_known : List ℕ → Bool) (now : ℕ) (is : List Item) → AreItems is → IfErr (events_from is_known now is) IsOfStimulus
unfolding events_from AreItems
events-refused is_known now [] h = tt
events-refused is_known now (stamp t ∷ is) h = then-refused (stamped t now) _ (stamped-refused t now) (λ next. events-refused is_known next is h)
events-refused is_known now (change t code value ∷ is) h =
    if-refused (is_known code) _ _ (then-refused (events_from is_known now is) _ (events-refused is_known now is h) (λ es. tt)) (λ e. cc)
events-refused is_known now (wrong t cause ∷ is) h = h.0

-- ---- inputs

cause-refused : (named : Bool) → IsOfText (cond named NotScalar MissingInput)
cause-refused true = λ e. cc
cause-refused false = λ e. cc

source_or_fault-refused : (o : Option Source) (net : ℕ) (cause : StimCause) → IsOfText cause → IfErr (source_or_fault o net cause) IsOfStimulus
source_or_fault-refused (Some source) net cause h = tt
source_or_fault-refused None net cause h = h

source_of_net-refused : (d : Design) (vs : List Variable) (net : ℕ) → IfErr (source_of_net d vs net) IsOfStimulus
source_of_net-refused d vs net =
    if-refused (is_input (driver_of d net)) _ _
    (then-refused _ _ (source_or_fault-refused (source_of vs (name_of d net)) net _ (cause-refused (list_any (is_named_for (name_of d net)) vs))) (λ code. tt)) tt

sources_below-refused : (d : Design) (vs : List Variable) (n : ℕ) → IfErr (sources_below d vs n) IsOfStimulus
unfolding sources_below
sources_below-refused d vs zero = tt
sources_below-refused d vs (suc n) = then-refused (sources_below d vs n) _ (sources_below-refused d vs n) (λ found. then-refused (source_of_net d vs n) _ (source_of_net-refused d vs n) (λ code. tt))

-- ---- a text

pub reading_of-of_stimulus : (text : List ℕ) (d : Design) → IfErr (reading_of text d) IsOfStimulus
unfolding reading_of
reading_of-of_stimulus text d =
    then-refused (declaring d.scope no_header None (tokens_of text)) _ (declaring-refused d.scope no_header None (tokens_of text)) (λ declared.
    then-refused (events_from (has_code declared.0.variables) 0 (items nothing declared.1)) _
    (events-refused (has_code declared.0.variables) 0 (items nothing declared.1) (items-items nothing declared.1)) (λ events.
    then-refused (sources_below d declared.0.variables (nets_of d)) _ (sources_below-refused d declared.0.variables (nets_of d)) (λ codes. tt)))
