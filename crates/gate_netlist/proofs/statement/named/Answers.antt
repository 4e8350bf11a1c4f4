use Rattle.std.proofs.Common.{drop}
use Rattle.std.proofs.lemmas.List.{take_rest, map_push}
use Rattle.gate_netlist.specs.Inner.Meant.{names_meant}
use Rattle.gate_netlist.specs.Inner.Tokens.{symbols_of}
use Rattle.gate_netlist.proofs.Splitting.{ends_bare, ends_closed, ends_broken, ends_past, goes_on_at}
use Rattle.gate_netlist.proofs.statement.named.Goals as goal

pub returns-in_default : goal.returns-in_default
returns-in_default c =
    ends_bare (names_meant c.loop-at.names.items) (symbols_of (drop c.loop-at.at c.args.tokens.now)) _ (rw take_rest at c.in_default.ensures) c.loop-at.invariant

pub returns-then-closes : goal.returns-then-closes
returns-then-closes c =
    rw (c.as_slice.ensures.value, c.in_ok-push.ensures.items, map_push _ c.loop-at.names.items c.in-Some.name) (ends_closed (names_meant c.loop-at.names.items) (symbols_of (drop c.loop-at.at c.args.tokens.now)) _ c.in-Some.name.now _ (rw take_rest at c.in-Some.ensures) c.if-closes.ensures c.loop-at.invariant)

pub returns-then-not-has_comma : goal.returns-then-not-has_comma
returns-then-not-has_comma c =
    ends_broken (names_meant c.loop-at.names.items) (symbols_of (drop c.loop-at.at c.args.tokens.now)) _ c.in-Some.name.now _ (rw take_rest at c.in-Some.ensures) c.if-closes.ensures c.if-not-has_comma.ensures c.loop-at.invariant

pub loop-at-preserved : goal.loop-at-preserved
loop-at-preserved c =
    rw (c.in_ok-push.ensures.items, map_push _ c.loop-at.names.items c.in-Some.name) (goes_on_at (names_meant c.loop-at.names.items) c.args.tokens.now c.loop-at.at _ c.in-Some.name.now _ (rw take_rest at c.in-Some.ensures) c.if-closes.ensures c.if-not-has_comma.ensures c.loop-at.invariant)

pub returns : goal.returns
returns c = ends_past (names_meant c.loop-at.names.items) c.args.tokens.now c.loop-at.at _ c.loop-at-test.false c.loop-at.invariant
