-- Names that are near to one that isn't known.
use Rattle.std.specs.Prelude.{◌≡◌, ℕ, ◌-◌, Bool, nat_eq, not, ◌&&◌, ◌||◌, List, ◌++◌, length, take, drop, map, codes, Option, option_map}
use Rattle.std.specs.Borrow.{Bor}
use Rattle.std.specs.List.{find, starts_with, ends_with}
use Rattle.std.specs.Option.{option_or}
use Rattle.std.specs.Str.{bytes_eq, str_eq_ignore_ascii_case}
use Rattle.finding_words.specs.Sentences.{IsQuoted}
use Rattle.finding_words.specs.declared.near.Near.{Near}
use Rattle.finding_words.specs.declared.near.Near.TheVariants.{InAnyCase, WithoutScope, WithScope, Bit}
use Rattle.finding_words.specs.declared.near.NearName.{NearName}

-- what the bytes are that these slices lend
abbrev pub texts : List (Bor (List ℕ)) → List (List ℕ)
texts slices = map (λ (slice : Bor (List ℕ)). slice.now) slices

-- a path ends with a name that isn't empty, behind a dot
abbrev pub is_behind_scope : (path name : List ℕ) → Bool
is_behind_scope path name = not (nat_eq (length name) 0) && ends_with nat_eq path name && ends_with nat_eq (take (length path - length name) path) (codes ".")

-- a path is a name, or leads to it through scopes
abbrev pub leads_to : (name path : List ℕ) → Bool
leads_to name path = bytes_eq path name || is_behind_scope path name

-- the first of these paths that leads to a name
abbrev pub path_to : (paths : List (List ℕ)) (name : List ℕ) → Option (List ℕ)
path_to paths name = find (leads_to name) paths

-- a known name has the same letters in any case, is the name without scopes in front, is it with scopes in front, or is a
-- bit of it
abbrev pub is_near : Near → (name known : List ℕ) → Bool
is_near InAnyCase name known = str_eq_ignore_ascii_case known name
is_near WithoutScope name known = is_behind_scope name known
is_near WithScope name known = is_behind_scope known name
is_near Bit name known = starts_with nat_eq known name && starts_with nat_eq (drop (length name) known) (codes "[")

-- what is true of names, for one who wrote another
abbrev pub rule_of : Near → List ℕ
rule_of InAnyCase = codes "names keep their letters' case"
rule_of WithoutScope = codes "no scope is named in front"
rule_of WithScope = codes "the scopes in between are named in front, with dots"
rule_of Bit = codes "each bit of a vector has a name"

-- a known name that is near, and the rule
pub record NearText : Type 0 where
  pub rule : List ℕ
  pub name : List ℕ

abbrev pub text_of : NearName → NearText
text_of near = record { rule = near.rule.now; name = near.name.now }

-- the first of the known names that is near in this way
abbrev pub near_by : Near → (known : List (List ℕ)) (name : List ℕ) → Option NearText
near_by near known name = option_map (λ other. record { rule = rule_of near; name = other }) (find (is_near near name) known)

-- the same in the first way in which one is
abbrev pub nearest : (known : List (List ℕ)) (name : List ℕ) → Option NearText
nearest known name =
    option_or (near_by InAnyCase known name)
    (option_or (near_by WithoutScope known name)
    (option_or (near_by WithScope known name) (near_by Bit known name)))

-- whether a quoted name is meant
abbrev pub question : (rule quoted : List ℕ) → List ℕ
question rule quoted = rule ++ (codes ": is " ++ (quoted ++ codes " meant?"))

-- the same of a known name that is near
pub record IsQuestion (near : NearText) (text : List ℕ) : Type 0 where
  pub quoted : List ℕ
  pub quotes : IsQuoted near.name quoted
  pub is : text ≡ question near.rule quoted
