-- What is admitted to a block, and what is put into it, as the block shows them.
use Rattle.std.proofs.Common.{◌≡◌, ◌≢◌, ◌∙◌, ℕ, max, ◌<◌, true, ap, sym, subst, arith, get_or}
use Rattle.warp_engine.specs.Runs.{Run}
use Rattle.warp_part.specs.Portion.{hears}
use Rattle.warp_part.proofs.Slots.{slot_is}
use Rattle.warp_process.specs.declared.entry.Entry.{Entry}
use Rattle.warp_process.specs.declared.message.Message.{Message}
use Rattle.warp_process.specs.Entries.{effective_of}
use Rattle.warp_process.specs.View.{View, effective_at}
use Rattle.warp_process.specs.Receive.{IsTaken}
use Rattle.warp_process.specs.Shown.Receive.{IsAdmitted, IsPut}
use Rattle.warp_process.proofs.Receiving.{rolled, kept}
use Rattle.warp_block.specs.Shown.Block.{seen_by}

module _ (v : View) (m : Message) (slot : ℕ) (entry : Entry) (a : IsAdmitted v m slot entry) where
  -- the place is that of the message's net
  pub named : get_or v.part.nets slot 0 ≡ m.net
  named = (slot_is v.part.nets m.net slot a.place).1

  pub heard_there : hears v.part (get_or v.part.nets slot 0) ≡ true
  heard_there = subst (λ (n : ℕ). hears v.part n ≡ true) (sym named) a.heard

  module _ (w : View) (put : IsPut v w (get_or v.part.nets slot 0) m.time entry) (run new : Run) where
    admitted_seen : IsAdmitted (seen_by v run) m slot entry
    admitted_seen = record { accepted = a.accepted; place = a.place; heard = a.heard; bumped = a.bumped; from = a.from; until = a.until }

    put_named : IsPut v w m.net m.time entry
    put_named = subst (λ (n : ℕ). IsPut v w n m.time entry) named put

    put_seen : IsPut (seen_by v run) (seen_by w new) m.net m.time entry
    put_seen = record { part = put_named.part; horizon = put_named.horizon; floor = put_named.floor; entries = put_named.entries }

    -- the engine has gone back to the message's time
    pub taken_late : new.book.mark ≡ m.time → (m.time < run.book.mark) × (effective_of entry ≢ effective_at v (get_or v.part.nets slot 0) m.time) → IsTaken (seen_by v run) (seen_by w new) m
    taken_late mark late =
        rolled (seen_by v run) (seen_by w new) m slot entry admitted_seen put_seen (let from = a.from in let floor = put.floor in omega (arith, mark, from, floor))
        ((let before = late.0 in omega (arith, before)), subst (λ (n : ℕ). effective_of entry ≢ effective_at v n m.time) named late.1)

    -- or stays
    pub taken_in_time : new.book.mark ≡ run.book.mark → ((m.time < run.book.mark) × (effective_of entry ≢ effective_at v (get_or v.part.nets slot 0) m.time) → ⊥) → IsTaken (seen_by v run) (seen_by w new) m
    taken_in_time mark early =
        kept (seen_by v run) (seen_by w new) m slot entry admitted_seen put_seen (ap (λ k. max k w.floor) mark ∙ ap (max run.book.mark) put.floor)
        (λ late. early ((let before = late.0 in let from = a.from in omega (arith, before, from)), subst (λ (n : ℕ). effective_of entry ≢ effective_at v n m.time) (sym named) late.1))
