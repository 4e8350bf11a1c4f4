use Rattle.std.proofs.Common.{◌+◌, arith}
use Rattle.bit_compare.specs.Inner.Cursors.{seen_by}
use Rattle.bit_compare.proofs.Moments.{passed-later}
use Rattle.bit_compare.proofs.cursor.Cursor.advance.Goals as goal

pub count_from-self-requires : goal.count_from-self-requires
count_from-self-requires c = record { shown = c.requires.ready.shown; known = passed-later (seen_by c.args.self.now) c.args.self.now.time c.args.time c.args.self.now.passed c.requires.forward c.requires.ready.passed }

pub follow-requires : goal.follow-requires
follow-requires c = record {
  shown = c.requires.ready.shown;
  near = passed-later (seen_by c.args.self.now) (c.args.self.now.time + c.args.self.now.within) (c.args.time + c.args.self.now.within) c.args.self.now.near (omega (arith, c.requires.forward)) c.requires.ready.near;
  recent = c.requires.ready.recent;
}

pub returns-clause-at : goal.returns-clause-at
returns-clause-at c = record {
  shown = rw c.follow.ensures.shown c.requires.ready.shown;
  small = rw (c.follow.ensures.time, c.follow.ensures.within) c.requires.small;
  passed = rw (c.follow.ensures.shown, c.follow.ensures.time, c.follow.ensures.passed) c.count_from-self.ensures;
  near = rw (c.follow.ensures.time, c.follow.ensures.within) c.follow.ensures.near;
  recent = c.follow.ensures.recent;
}
