-- A test of each member of a table, as code makes it over the map's entries.
use Rattle.std.proofs.Common.{◌≡◌, ℕ, Bool, ◌||◌, List, [], ◌∷◌, refl, ap, string_bytes}
use Rattle.std.specs.List.{list_any}
use Rattle.toml.specs.Data.{Data}
use Rattle.toml.specs.View.{view, members_view}
use Rattle.toml.proofs.Views.{Entry}
use Rattle.gate_netlist.specs.Causes.{any_member}

pub any_entry : (p : List ℕ → Data → Bool) (es : List Entry) → list_any (λ e. p (string_bytes e.0) (view e.1)) es ≡ any_member p (members_view es)
any_entry p [] = refl
any_entry p (e ∷ es) = ap (λ b. p (string_bytes e.0) (view e.1) || b) (any_entry p es)
