use Rattle.std.proofs.Common.{sym, ◌∙◌, subst, true, ◌≡◌}
use Rattle.warp_process.specs.declared.entry.Entry.{Entry}
use Rattle.warp_process.specs.Entries.{is_settled}
use Rattle.warp_process.proofs.Settled.{same_entry_is, same_entry_from, settled_of_none, settled_of_some, settled-none, settled-one}
use Rattle.warp_process.proofs.entry.Entry.is_settled.Goals as goal

pub returns-in-Some : goal.returns-in-Some
returns-in-Some c =
    let e = c.args.self.now in
    let value = c.in-Some.value in
    let some = sym c.effective.ensures ∙ c.in-Some.is in (
      λ h. subst (λ (x : Entry). is_settled x ≡ true) (sym (same_entry_is e c.one_message.result (sym c.eq.ensures ∙ h) ∙ c.one_message.ensures)) (settled-one value),
      λ h. c.eq.ensures ∙ same_entry_from e c.one_message.result (settled_of_some e value some h ∙ sym c.one_message.ensures),
    )

pub returns-in-None : goal.returns-in-None
returns-in-None c =
    let e = c.args.self.now in
    let none = sym c.effective.ensures ∙ c.in-None.is in (
      λ h. subst (λ (x : Entry). is_settled x ≡ true) (sym (c.is_empty.ensures.0 h)) settled-none,
      λ h. c.is_empty.ensures.1 (settled_of_none e none h),
    )
