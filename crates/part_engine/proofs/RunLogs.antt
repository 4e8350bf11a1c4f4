-- What an engine's run is to a block's view: what it makes and what came true is in the logs, and what it brings back is what is saved.
use Rattle.std.proofs.Common.{◌≡◌, ◌∙◌, ℕ, zero, suc, ◌+◌, ◌<◌, ◌≤◌, inl, inr, true, cond, nat_lt, IsTrue, List, [], ◌∷◌, ◌++◌, map, length, get_or, refl, ap, sym, subst, arith}
use Rattle.std.proofs.lemmas.Bool.{cases_lt, true≢false}
use Rattle.std.proofs.lemmas.List.{length-map, get_or-map, get_or_past, get_or_default, same_lists}
use Rattle.gate_values.specs.declared.logic.Logic.{Logic}
use Rattle.gate_values.specs.declared.logic.Logic.TheVariants.{X}
use Rattle.gate_values.specs.declared.logic.Change.{Change}
use Rattle.gate_values.specs.Behaviour.{Source, Outside, Gate, Flop, value, source_delay}
use Rattle.gate_values.specs.Changes.{changes, before_time}
use Rattle.gate_values.proofs.ChangeLists.{changes-agree}
use Rattle.warp_gates.specs.Cells.{value_at, cell_at}
use Rattle.warp_stores.specs.Lists.{AreLonger, changes_at}
use Rattle.place_moves.specs.Logs.{log_of}
use Rattle.warp_engine.specs.Runs.{Run, makings}
use Rattle.warp_engine.specs.Logs.{log_up_to}
use Rattle.warp_engine.proofs.Running.{log_longer}
use Rattle.warp_engine.proofs.Agreeing.{logs_agree_at}
use Rattle.warp_engine.proofs.Recalling.{history_logs}
use Rattle.warp_engine.specs.States.{values_before, contents_before}
use Rattle.warp_engine.proofs.Saving.{values_are, contents_are, many_are}
use Rattle.warp_part.specs.Portion.{Portion, IsPortion, source_of, is_driven}
use Rattle.warp_process.specs.View.{View, given_by, block_value, moment_before}
use Rattle.warp_process.specs.Lawful.{lawful_log, IsSaved}
use Rattle.warp_process.specs.Played.{played_view}
use Rattle.warp_part.specs.Placing.{net_of_place, placed, place_source, place_given, place_cells, cell_by}
use Rattle.part_engine.specs.Histories.{TellLogs}
use Rattle.part_engine.specs.Runs.{IsRunOf, IsEngineOf, state_of}
use Rattle.part_engine.proofs.Sources.{delay_placed, set_at}
use Rattle.warp_part.proofs.Placing.{source_at, shown_at, held_at}

module _ (v : View) (portion : IsPortion v.part) where
  -- the log of a place is that of its net
  log_by : (nets : List ℕ) (s : Source) (mark : ℕ) (all : List Change) → log_of (placed nets s) mark all ≡ cond (is_driven s) (before_time (mark + source_delay s) all) []
  log_by nets Outside mark all = refl
  log_by nets (Gate kind delay inputs) mark all = refl
  log_by nets (Flop delay d clock initial) mark all = refl

  changes_same : (i : ℕ) → i < length v.part.nets → changes (value (place_source v.part) (place_given v.part (given_by v)) i) (v.horizon + 1) ≡ changes (block_value v (net_of_place v.part i)) (v.horizon + 1)
  changes_same i l =
      changes-agree (value (place_source v.part) (place_given v.part (given_by v)) i) (block_value v (net_of_place v.part i)) (v.horizon + 1)
      (λ t k. shown_at v.part portion (given_by v) (suc t) i l)

  pub log_same : (i : ℕ) → i < length v.part.nets
      → log_of (place_source v.part i) v.mark (changes (value (place_source v.part) (place_given v.part (given_by v)) i) (v.horizon + 1)) ≡ lawful_log v (net_of_place v.part i)
  log_same i l =
      let n : ℕ = net_of_place v.part i in
      let s : Source = get_or v.part.sources i Outside in
      let same : source_of v.part n ≡ s = source_at v.part portion i l in
      let all : List Change = changes (block_value v n) (v.horizon + 1) in
      ap (log_of (place_source v.part i) v.mark) (changes_same i l)
      ∙ log_by v.part.nets s v.mark all
      ∙ ap (λ (x : Source). cond (is_driven x) (before_time (v.mark + source_delay x) all) []) (sym same)

  -- what a run brings back of a moment that it has played is the state there
  pub state_is : (run : Run) (floor mark : ℕ) → IsRunOf v.part (given_by v) v.horizon floor run → floor ≤ mark → mark ≤ run.book.mark → IsSaved v (state_of run.book mark)
  state_is run floor mark of low top =
      let cells : length run.book.gates.cells ≡ length v.part.nets = ap length of.cells ∙ length-map v.part.sources (cell_by v.part.nets) ∙ portion.sources in
      let many = many_are (place_source v.part) (place_given v.part (given_by v)) floor mark run.book of.is.played in
      record {
        values = by_net (values_before mark run.book) (moment_before v mark).value (many.0 ∙ cells)
            (λ i l. values_are (place_source v.part) (place_given v.part (given_by v)) floor mark run.book of.is.played low top i ∙ shown_at v.part portion (given_by v) mark i l);
        contents = by_net (contents_before mark run.book) (moment_before v mark).content (many.1 ∙ cells)
            (λ i l. contents_are (place_source v.part) (place_given v.part (given_by v)) floor mark run.book of.is.played low top i (omega (arith, cells)) ∙ held_at v.part portion (given_by v) mark i l);
      }
    where
      value_of : (f : ℕ → Logic) (ns : List ℕ) (i : ℕ) → i < length ns → value_at (map f ns) i ≡ f (get_or ns i 0)
      value_of f [] i l = absurd (omega arith)
      value_of f (n ∷ ns) zero l = refl
      value_of f (n ∷ ns) (suc i) l = value_of f ns i (omega arith)

      by_net : (values : List Logic) (f : ℕ → Logic) → length values ≡ length v.part.nets → ((i : ℕ) → i < length v.part.nets → value_at values i ≡ f (net_of_place v.part i)) → values ≡ map f v.part.nets
      by_net values f same each =
          let many : length (map f v.part.nets) ≡ length v.part.nets = length-map v.part.nets f in
          same_lists values (map f v.part.nets) (omega (arith, same))
          (λ i d l. let here : i < length v.part.nets = omega (arith, same) in
          get_or_default values i d X l ∙ each i here ∙ sym (get_or_default (map f v.part.nets) i d X (omega arith) ∙ value_of f v.part.nets i here))

-- as many places as nets
pub cells_are : (v : View) (floor : ℕ) (run : Run) → IsEngineOf v floor run → length run.book.gates.cells ≡ length v.part.nets
cells_are v floor run of = ap length of.run.cells ∙ length-map v.part.sources (cell_by v.part.nets) ∙ of.received.part.sources

-- at each place stands the log of its net
logs_at : (v : View) (m i : ℕ) → i < length v.part.nets → get_or (played_view v m).logs i [] ≡ lawful_log (record v { mark = m }) (net_of_place v.part i)
logs_at v m i l = get_or-map (lawful_log (record v { mark = m })) v.part.nets i 0 [] l

logs_many : (v : View) (m : ℕ) → length (played_view v m).logs ≡ length v.part.nets
logs_many v m = length-map v.part.nets (lawful_log (record v { mark = m }))

-- a place that is driven is there, and has a delay
driven_there : (p : Portion) → IsPortion p → (place : ℕ) → IsTrue (is_driven (get_or p.sources place Outside)) → (place < length p.nets) × (0 < source_delay (place_source p place))
driven_there p portion place driven = elim (cases_lt place (length p.nets)) [
  | inl l ↦ (let d = (portion.driven place l driven).1.0 in let same = delay_placed p.nets (get_or p.sources place Outside) in (l, omega (arith, d, same)))
  | inr far ↦ (let out : get_or p.sources place Outside ≡ Outside = get_or_past p.sources place Outside (let e = portion.sources in omega (arith, far, e)) in absurd (true≢false (sym driven ∙ ap is_driven out)))
]

-- which is that of the place
place_log : (v : View) → IsPortion v.part → (m i : ℕ) → i < length v.part.nets
    → get_or (played_view v m).logs i [] ≡ log_up_to (place_source v.part) (place_given v.part (given_by v)) v.horizon m i
place_log v portion m i l = logs_at v m i l ∙ sym (log_same (record v { mark = m }) portion i l)

-- what is received from a mark on doesn't matter to the logs up to it
pub logs_agree : (v w : View) → IsPortion v.part → v.part ≡ w.part → v.horizon ≡ w.horizon → (m : ℕ) → ((t n : ℕ) → t < m → given_by v t n ≡ given_by w t n) → (played_view v m).logs ≡ (played_view w m).logs
logs_agree v w portion part horizon m agree =
    same_lists (played_view v m).logs (played_view w m).logs (logs_many v m ∙ ap (λ (p : Portion). length p.nets) part ∙ sym (logs_many w m))
    (λ i d l. let here : i < length v.part.nets = omega (arith, logs_many v m) in
    let there : i < length w.part.nets = subst (λ (p : Portion). i < length p.nets) part here in
    get_or_default (played_view v m).logs i d [] l ∙ one i here there
    ∙ sym (get_or_default (played_view w m).logs i d [] (omega (arith, logs_many w m))))
  where
    own : IsPortion w.part
    own = subst IsPortion part portion

    one : (i : ℕ) → i < length v.part.nets → i < length w.part.nets → get_or (played_view v m).logs i [] ≡ get_or (played_view w m).logs i []
    one i here there =
        place_log v portion m i here
        ∙ logs_agree_at (place_source v.part) (place_given v.part (given_by v)) (place_given v.part (given_by w)) m
        (λ t p l. ap (λ (x : Logic). cond (nat_lt p (length v.part.nets)) x X) (agree t (net_of_place v.part p) l)) v.horizon i (cell_at (place_cells v.part) i) (set_at v.part portion i)
        ∙ ap (λ (p : Portion). log_up_to (place_source p) (place_given p (given_by w)) v.horizon m i) part
        ∙ ap (λ (h : ℕ). log_up_to (place_source w.part) (place_given w.part (given_by w)) h m i) horizon
        ∙ sym (place_log w own m i there)

module _ (v : View) (run : Run) (floor : ℕ) (of : IsEngineOf v floor run) where
  log_is : (m i : ℕ) → i < length v.part.nets → get_or (played_view v m).logs i [] ≡ log_up_to (place_source v.part) (place_given v.part (given_by v)) run.horizon m i
  log_is m i l =
      place_log v of.received.part m i l ∙ ap (λ (h : ℕ). log_up_to (place_source v.part) (place_given v.part (given_by v)) h m i) (sym of.run.horizon)

  -- what is made from a time on stands behind the logs up to it
  pub logs_longer : (time : ℕ) → floor ≤ time → time ≤ run.book.mark → AreLonger (makings time run) (played_view v time).logs (played_view v run.book.mark).logs
  logs_longer time low high = record {
    same = logs_many v run.book.mark ∙ sym (logs_many v time);
    each = λ i l.
        (let here : i < length v.part.nets = omega (arith, logs_many v time) in
        log_is run.book.mark i here
        ∙ log_longer (place_source v.part) (place_given v.part (given_by v)) floor time run of.run.is low high i
        ∙ ap (λ (cs : List Change). cs ++ changes_at i (makings time run)) (sym (log_is time i here)));
  }

  -- and what came true up to the horizon is the logs
  pub history_tells : run.book.mark ≡ suc v.horizon → TellLogs (played_view v run.book.mark) run.book.history
  history_tells mark i driven =
      let there : (i < length v.part.nets) × (0 < source_delay (place_source v.part i)) = driven_there v.part of.received.part i driven in
      history_logs (place_source v.part) (place_given v.part (given_by v)) floor run of.run.is (mark ∙ ap suc (sym of.run.horizon)) i there.1
      ∙ sym (log_is run.book.mark i there.0)

pub states_are : (v : View) (run : Run) (floor mark : ℕ) → IsEngineOf v floor run → floor ≤ mark → mark ≤ run.book.mark → IsSaved v (state_of run.book mark)
states_are v run floor mark of low high = state_is v of.received.part run floor mark of.run low high
