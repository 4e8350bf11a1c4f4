-- What the events do to worlds.
use Rattle.std.proofs.Common.{◌≡◌, ℕ, ◌+◌, ◌<◌, ◌≤◌, Result, Ok, Err, IfOk, OnErr, List, length, get_or, refl, arith}
use Rattle.std.specs.List.{All, remove}
use Rattle.std.proofs.lemmas.List.Elements.{All-weaker}
use Rattle.warp_process.specs.declared.fault.BlockFault.{BlockFault}
use Rattle.warp_process.specs.declared.message.Message.{Message}
use Rattle.warp_process.specs.declared.message.Sign.TheVariants.{Plus, Minus}
use Rattle.warp_process.specs.Advance.{IsAdvanced, IsAfterEvent}
use Rattle.warp_process.specs.Lawful.{IsLawful}
use Rattle.warp_process.specs.Receive.{IsTaken}
use Rattle.warp_process.specs.Sends.{SendsOnce}
use Rattle.warp_process.specs.View.{View, Process}
use Rattle.warp_core.specs.Matched.{seen_at}
use Rattle.warp_core.specs.World.{Scene, IsFlying, IsBefore, IsLeastTime, IsLawfulWorld}
use Rattle.warp_core.specs.Play.{IsSameCourse, IsOtherwiseSame, IsDelivered, IsRun}
use Rattle.warp_core.proofs.Acted.{IsAct, scene_with, act_before, act_lawful}
use Rattle.warp_core.proofs.CommittedAll.{before_left}
use Rattle.warp_core.proofs.Delivering.{delivered_act, delivered_flies}
use Rattle.warp_core.proofs.Running.{run_act}

pub same_course : (w : Scene) (blocks : List Process) (flight : List Message) → IsSameCourse w (scene_with w blocks flight)
same_course w blocks flight = record { circuit = refl; cut = refl; stimulus = refl; horizon = refl }

-- nothing in flight is past the horizon
pub flight_within : (w : Scene) → IsLawfulWorld w → All (λ m. m.time ≤ w.horizon + 1) w.flight
flight_within w law = All-weaker (IsFlying w.circuit w.cut w.horizon) (λ m. m.time ≤ w.horizon + 1) (λ m is. (let l = is.within in omega (arith, l))) w.flight law.flight

-- where nothing that is left has come earlier, the least time hasn't fallen
pub never_falls : (old new : Scene) → ((s : ℕ) → IsBefore old s → IsBefore new s) → (s t : ℕ) → IsLeastTime old s → IsLeastTime new t → s ≤ t
never_falls old new kept s t is now = before_left new s t (kept s is.before) now.left

module _ (w : Scene) (law : IsLawfulWorld w) (place : ℕ) (m : Message) (within : place < length w.flight) (at : m ≡ get_or w.flight place m) (new : List Process) (out : List Message)
    (others : IsOtherwiseSame w.blocks new m.block) (taken : IsTaken (seen_at w.blocks m.block) (seen_at new m.block) m) (lawful : IsLawful (seen_at new m.block))
    (once : SendsOnce (seen_at w.blocks m.block) (seen_at new m.block) Minus (λ t. m.time < t) (remove w.flight place) out) where
  delivered_one : IsAct w m.block new (remove w.flight place) out (λ t. m.time < t)
  delivered_one = delivered_act w law place m within at new out others taken lawful once.sends

  pub delivered_lawful : IsLawfulWorld (scene_with w new out)
  delivered_lawful = act_lawful w law m.block (delivered_flies w law place m within at).block new (remove w.flight place) out (λ t. m.time < t) delivered_one

  pub delivered_before : (s : ℕ) → IsBefore w s → IsBefore (scene_with w new out) s
  delivered_before = act_before w law m.block (delivered_flies w law place m within at).block new (remove w.flight place) out (λ t. m.time < t) delivered_one

  unfoldable pub delivered_is : IsDelivered w (scene_with w new out) place
  delivered_is = record { course = same_course w new out; within = within; message = m; at = at; others = others; taken = taken; sends = once }

module _ (w : Scene) (law : IsLawfulWorld w) (b count : ℕ) (within : b < w.cut.blocks) (new : List Process) (out : List Message) (others : IsOtherwiseSame w.blocks new b)
    (advanced : IsAdvanced (seen_at w.blocks b) (seen_at new b) count) (lawful : IsLawful (seen_at new b))
    (once : SendsOnce (seen_at w.blocks b) (seen_at new b) Plus (IsAfterEvent (seen_at w.blocks b)) w.flight out) where
  run_one : IsAct w b new w.flight out (IsAfterEvent (seen_at w.blocks b))
  run_one = run_act w law b count within new out others advanced lawful once.sends

  pub run_lawful : IsLawfulWorld (scene_with w new out)
  run_lawful = act_lawful w law b within new w.flight out (IsAfterEvent (seen_at w.blocks b)) run_one

  pub run_before : (s : ℕ) → IsBefore w s → IsBefore (scene_with w new out) s
  run_before = act_before w law b within new w.flight out (IsAfterEvent (seen_at w.blocks b)) run_one

  pub run_is : IsRun w (scene_with w new out) b count
  run_is = record { course = same_course w new out; within = within; others = others; advanced = advanced; sends = once }

-- whatever a block answers, it has finished some event times
pub some_finished : (old new : View) (steps : ℕ) (r : Result ℕ BlockFault) → IfOk r (IsAdvanced old new) → OnErr r ((count : ℕ) × (count < steps) × IsAdvanced old new count) → (count : ℕ) × IsAdvanced old new count
some_finished old new steps (Ok k) ok err = (k, ok)
some_finished old new steps (Err e) ok err = (err.0, err.2)
