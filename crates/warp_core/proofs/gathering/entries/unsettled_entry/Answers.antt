use Rattle.std.proofs.Common.{◌+◌, ℕ, Option, Some, None, IfSome, IfNone}
use Rattle.std.specs.Option.{MatchOption}
use Rattle.warp_process.specs.View.{View}
use Rattle.warp_process.specs.Lawful.{IsLawful}
use Rattle.warp_process.specs.Commit.{IsUnsettledBelow, IsFirstUnsettled as IsFirstBelow}
use Rattle.warp_core.specs.Matched.{AreSettled}
use Rattle.warp_core.specs.Gather.{IsFirstUnsettled}
use Rattle.warp_core.proofs.Entries.{none_unsettled, first_unsettled}
use Rattle.warp_core.proofs.gathering.entries.unsettled_entry.Goals as goal

-- what is answered of the first one
either : (v : View) → IsLawful v → (r : Option (ℕ × ℕ)) → IfNone r ((n t : ℕ) → IsUnsettledBelow v (v.horizon + 1) n t → ⊥) → IfSome r (λ p. IsFirstBelow v (v.horizon + 1) p.0 p.1) → MatchOption r (AreSettled v) (λ p. IsFirstUnsettled v p.0 p.1)
either v lawful None none some = none_unsettled v lawful none
either v lawful (Some p) none some = first_unsettled v lawful p.0 p.1 some

pub returns : goal.returns
returns g c = either c.args.block.now.seen c.law.ensures.seen c.first_unsettled.result c.first_unsettled.ensures.none c.first_unsettled.ensures.some
