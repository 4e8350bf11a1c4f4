-- What the settings give each net, as the code walks over names and definitions.
use Rattle.std.proofs.Common.{◌≡◌, ◌∙◌, ℕ, Bool, ◌||◌, List, [], ◌∷◌, map, fold, max, Option, Some, None, unwrap_or, option_map, option_and_then, String, Global, string_bytes, Bor, BTreeMap, refl, ap, arith, codes}
use Rattle.std.specs.List.{list_any, zip}
use Rattle.std.specs.Map.{values_of}
use Rattle.gate_values.specs.declared.gate.Kind.{Kind}
use Rattle.gate_values.specs.declared.gate.Kind.TheVariants as kind
use Rattle.toml.specs.Data.{Members, no_members, get_member, as_table}
use Rattle.toml.specs.View.{view, members_view, table_view}
use Rattle.toml.specs.declared.value.Value.{Value}
use Rattle.toml.proofs.Views.{Entry}
use Rattle.gate_values.specs.Words.{word_of}
use Rattle.gate_netlist.specs.declared.bench.Definition.{Definition}
use Rattle.gate_netlist.specs.declared.bench.Definition.TheVariants.{Input, Gate, Flop}
use Rattle.gate_netlist.specs.Netlist.{any_net}
use Rattle.gate_netlist.specs.Settings.{as_block, table_at, delay_of_key, net_delay, greatest_block}
use Rattle.gate_netlist.specs.declared.settings.nets.KindDelays.{KindDelays}
use Rattle.gate_netlist.specs.Meaning.{delays_of}
use Rattle.gate_netlist.specs.Inner.Kinds.{kind_delays, delay_of_kind, members_in, delay_among}

-- over names as texts, and over their bytes
pub map-zip-names : {X : Type 0} (f : List ℕ → Definition → X) (names : List (String Global)) (ds : List Definition)
    → map (λ (net : String Global × Definition). f (string_bytes net.0) net.1) (zip names ds) ≡ map (λ (net : List ℕ × Definition). f net.0 net.1) (zip (map string_bytes names) ds)
map-zip-names f [] ds = refl
map-zip-names f (n ∷ ns) [] = refl
map-zip-names f (n ∷ ns) (d ∷ ds) = ap (λ xs. f (string_bytes n) d ∷ xs) (map-zip-names f ns ds)

-- a test of each net, as code makes it over names as texts
pub any-zip-names : (p : List ℕ → Definition → Bool) (names : List (String Global)) (ds : List Definition)
    → list_any (λ (net : String Global × Definition). p (string_bytes net.0) net.1) (zip names ds) ≡ any_net p (map string_bytes names) ds
any-zip-names p [] ds = refl
any-zip-names p (n ∷ ns) [] = refl
any-zip-names p (n ∷ ns) (d ∷ ds) = ap (λ b. p (string_bytes n) d || b) (any-zip-names p ns ds)

delay_of_kind-kind_delays : (ms : Members) (k : Kind) → delay_of_kind (kind_delays ms) k ≡ delay_of_key ms (word_of k)
delay_of_kind-kind_delays ms kind.And = refl
delay_of_kind-kind_delays ms kind.Nand = refl
delay_of_kind-kind_delays ms kind.Or = refl
delay_of_kind-kind_delays ms kind.Nor = refl
delay_of_kind-kind_delays ms kind.Xor = refl
delay_of_kind-kind_delays ms kind.Xnor = refl
delay_of_kind-kind_delays ms kind.Not = refl
delay_of_kind-kind_delays ms kind.Buff = refl

pub delay_among-net_delay : (ms : Members) (name : List ℕ) (d : Definition) → delay_among (table_at (codes "net") ms) (kind_delays ms) name d ≡ net_delay ms name d
delay_among-net_delay ms name Input = refl
delay_among-net_delay ms name (Gate k inputs) = rw (delay_of_kind-kind_delays ms k) refl
delay_among-net_delay ms name (Flop d) = refl

pub members_in-table : (r : Option (Bor (BTreeMap (String Global) Value))) → members_in r ≡ unwrap_or (option_map (λ t. table_view t.now) r) no_members
members_in-table None = refl
members_in-table (Some t) = refl

-- the delays that the code collects are those of the document
pub delays_are : (ms : Members) (r : Option (Bor (BTreeMap (String Global) Value))) (kinds : KindDelays) (names : List (String Global)) (ds : List Definition)
    → option_map (λ t. table_view t.now) r ≡ option_and_then as_table (get_member (codes "net") ms) → kinds ≡ kind_delays ms
    → map (λ (net : String Global × Definition). delay_among (members_in r) kinds (string_bytes net.0) net.1) (zip names ds) ≡ delays_of ms (map string_bytes names) ds
delays_are ms r kinds names ds found same =
    let nets : members_in r ≡ table_at (codes "net") ms = members_in-table r ∙ ap (λ o. unwrap_or o no_members) found in
    rw (nets, same, map-zip-names (delay_among (table_at (codes "net") ms) (kind_delays ms)) names ds) (simp delay_among-net_delay)

max_assoc : (a b c : ℕ) → max (max a b) c ≡ max a (max b c)
max_assoc a b c = omega arith

-- a walk from the left over the blocks given finds the greatest
pub fold-greatest_block : (es : List Entry) (a : ℕ) → fold (λ greatest value. max greatest (unwrap_or (as_block (view value)) 0)) a (values_of es) ≡ max a (greatest_block (members_view es))
fold-greatest_block [] a = omega arith
fold-greatest_block (e ∷ es) a = fold-greatest_block es _ ∙ max_assoc a _ _
