use Rattle.std.proofs.Common.{◌∙◌, ap, rules}
use Rattle.warp_rounds.proofs.Receiving.{received_part, received_horizon}
use Rattle.warp_rounds.proofs.Turning.{turned_part, turned_horizon, turned_numbers, turned_sends, held_back}
use Rattle.warp_rounds.proofs.turns.turn_through.Goals as goal

pub returns-clause-numbers : goal.returns-clause-numbers
returns-clause-numbers g c =
    turned_numbers c.args.block.now c.receive_all.new.block c.commit.new.block c.advance.new.block.seen _ _ _
    c.in_ok-receive_all.ensures.received c.in_ok-commit.ensures.ok c.in_ok-finished.ensures.ok

pub returns-clause-part : goal.returns-clause-part
returns-clause-part g c =
    turned_part c.args.block.now c.receive_all.new.block c.commit.new.block c.advance.new.block.seen _ _ _
    c.in_ok-receive_all.ensures.received c.in_ok-commit.ensures.ok c.in_ok-finished.ensures.ok

pub returns-clause-horizon : goal.returns-clause-horizon
returns-clause-horizon g c =
    turned_horizon c.args.block.now c.receive_all.new.block c.commit.new.block c.advance.new.block.seen _ _ _
    c.in_ok-receive_all.ensures.received c.in_ok-commit.ensures.ok c.in_ok-finished.ensures.ok

pub returns-clause-sends : goal.returns-clause-sends
returns-clause-sends g c =
    turned_sends c.args.block.now c.receive_all.new.block c.commit.new.block c.advance.new.block.seen _ _ _ _ _
    c.in_ok-receive_all.ensures.received c.in_ok-commit.ensures.ok c.receive_all.ensures.pending c.receive_all.ensures.sends c.advance.ensures.sends

pub returns-in_err-receive_all-clause-part : goal.returns-in_err-receive_all-clause-part
returns-in_err-receive_all-clause-part g c = received_part c.args.block.now.seen c.receive_all.new.block.seen _ c.in_err-receive_all.ensures.refused.received

pub returns-in_err-receive_all-clause-horizon : goal.returns-in_err-receive_all-clause-horizon
returns-in_err-receive_all-clause-horizon g c = received_horizon c.args.block.now.seen c.receive_all.new.block.seen _ c.in_err-receive_all.ensures.refused.received

pub returns-in_err-commit-clause-part : goal.returns-in_err-commit-clause-part
returns-in_err-commit-clause-part g c =
    ap (λ p. p.seen.part) c.in_err-commit.ensures.err ∙ received_part c.args.block.now.seen c.receive_all.new.block.seen _ c.in_ok-receive_all.ensures.received

pub returns-in_err-commit-clause-horizon : goal.returns-in_err-commit-clause-horizon
returns-in_err-commit-clause-horizon g c =
    ap (λ p. p.seen.horizon) c.in_err-commit.ensures.err ∙ received_horizon c.args.block.now.seen c.receive_all.new.block.seen _ c.in_ok-receive_all.ensures.received

pub returns-in_err-commit-clause-fault : goal.returns-in_err-commit-clause-fault
returns-in_err-commit-clause-fault g c =
    let fault = held_back c.args.block.now c.receive_all.new.block c.commit.new.block c.args.messages.now c.args.floor c.args.window c.in_err-commit.field-0.0
    c.in_ok-receive_all.ensures.received c.in_err-commit.ensures.err c.in_err-commit.ensures.refused in
    search rules

pub returns-in_err-finished-clause-part : goal.returns-in_err-finished-clause-part
returns-in_err-finished-clause-part g c =
    turned_part c.args.block.now c.receive_all.new.block c.commit.new.block c.advance.new.block.seen _ _ _
    c.in_ok-receive_all.ensures.received c.in_ok-commit.ensures.ok c.in_err-finished.ensures.some.2

pub returns-in_err-finished-clause-horizon : goal.returns-in_err-finished-clause-horizon
returns-in_err-finished-clause-horizon g c =
    turned_horizon c.args.block.now c.receive_all.new.block c.commit.new.block c.advance.new.block.seen _ _ _
    c.in_ok-receive_all.ensures.received c.in_ok-commit.ensures.ok c.in_err-finished.ensures.some.2

pub returns-in_err-finished-clause-sends : goal.returns-in_err-finished-clause-sends
returns-in_err-finished-clause-sends g c =
    turned_sends c.args.block.now c.receive_all.new.block c.commit.new.block c.advance.new.block.seen _ _ _ _ _
    c.in_ok-receive_all.ensures.received c.in_ok-commit.ensures.ok c.receive_all.ensures.pending c.receive_all.ensures.sends c.advance.ensures.sends
