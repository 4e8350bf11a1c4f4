use Rattle.std.proofs.Common.{◌≢◌, List, set, refl, subst, sym, ap, ◌∙◌}
use Rattle.std.specs.List.{insert}
use Rattle.std.proofs.lemmas.Bool.{false≢true}
use Rattle.warp_process.specs.Entries.{no_messages}
use Rattle.warp_process.specs.Rows.{Standing, IsRow, entry_on}
use Rattle.warp_process.proofs.RowEdits.{removed-row, removed-entries, replaced-row, replaced-entries, inserted-row, inserted-entries, absent-entries, lacks-between}
use Rattle.warp_process.proofs.row.put.Goals as goal

pub returns-in-Ok-clause-ok : goal.returns-in-Ok-clause-ok
returns-in-Ok-clause-ok c u =
    let stands = rw c.as_slice.ensures at c.in-Ok.ensures.stands in
    ap (λ (es : List Standing). entry_on es u) c.remove.ensures.items
    ∙ removed-entries c.args.row.now.items c.in-Ok.at c.args.place c.args.entry c.requires stands.0 stands.1 (c.is_empty.ensures.0 c.if-is_empty.true) u

pub returns-in_default-clause-ok : goal.returns-in_default-clause-ok
returns-in_default-clause-ok c =
    let belongs = rw c.as_slice.ensures at c.in_default.ensures.belongs in
    absent-entries c.args.row.now.items c.args.place c.args.entry (lacks-between c.args.row.now.items c.args.place c.in_default.field-0 belongs.1) (c.is_empty.ensures.0 c.if-is_empty.true)

pub returns-in-Ok-found-clause-ok : goal.returns-in-Ok-found-clause-ok
returns-in-Ok-found-clause-ok c u =
    let stands = rw c.as_slice.ensures at c.in-Ok-found.ensures.stands in
    ap (λ (es : List Standing). entry_on es u) (c.replace.ensures ∙ ap (set c.args.row.now.items c.in-Ok-found.at) c.in_ok-placed.ensures)
    ∙ replaced-entries c.args.row.now.items c.in-Ok-found.at c.args.place (record { place = c.args.place; entry = c.args.entry }) c.requires stands.0 stands.1 refl u

pub returns-in-Ok-clause-row : goal.returns-in-Ok-clause-row
returns-in-Ok-clause-row c =
    let stands = rw c.as_slice.ensures at c.in-Ok.ensures.stands in
    subst IsRow (sym c.remove.ensures.items) (removed-row c.args.row.now.items c.in-Ok.at c.requires stands.0)

pub returns-in-Ok-found-clause-row : goal.returns-in-Ok-found-clause-row
returns-in-Ok-found-clause-row c =
    let found = rw c.as_slice.ensures at c.in-Ok-found.ensures.stands in
    let stands : c.args.entry ≢ no_messages = λ e. false≢true (sym c.if-is_empty.false ∙ c.is_empty.ensures.1 e) in
    subst IsRow (sym (c.replace.ensures ∙ ap (set c.args.row.now.items c.in-Ok-found.at) c.in_ok-placed.ensures))
    (replaced-row c.args.row.now.items c.in-Ok-found.at c.args.place (record { place = c.args.place; entry = c.args.entry }) c.requires found.0 found.1 refl stands)

pub returns-in_ok-insert-in-Err-clause-row : goal.returns-in_ok-insert-in-Err-clause-row
returns-in_ok-insert-in-Err-clause-row c =
    let belongs = rw c.as_slice.ensures at c.in-Err.ensures.belongs in
    let stands : c.args.entry ≢ no_messages = λ e. false≢true (sym c.if-is_empty.false ∙ c.is_empty.ensures.1 e) in
    subst IsRow (sym (c.in_ok-insert-in-Err.ensures.ok ∙ ap (insert c.args.row.now.items c.in-Err.at) c.in_ok-placed.ensures))
    (inserted-row c.args.row.now.items c.in-Err.at (record { place = c.args.place; entry = c.args.entry }) c.requires belongs.0 belongs.1 stands)

pub returns-in_ok-insert-in-Err-clause-ok : goal.returns-in_ok-insert-in-Err-clause-ok
returns-in_ok-insert-in-Err-clause-ok c u =
    let belongs = rw c.as_slice.ensures at c.in-Err.ensures.belongs in
    ap (λ (es : List Standing). entry_on es u) (c.in_ok-insert-in-Err.ensures.ok ∙ ap (insert c.args.row.now.items c.in-Err.at) c.in_ok-placed.ensures)
    ∙ inserted-entries c.args.row.now.items c.in-Err.at (record { place = c.args.place; entry = c.args.entry }) (lacks-between c.args.row.now.items c.args.place c.in-Err.at belongs.1) u
