use Rattle.warp_rounds.proofs.Receiving.{received_none, received_more, refused_at}
use Rattle.warp_rounds.proofs.turns.receive_all.Goals as goal

pub loop-message-init : goal.loop-message-init
loop-message-init g c = record { received = received_none _ _ _ c.law.ensures.seen; counted = c.requires.counted }

pub loop-message-preserved : goal.loop-message-preserved
loop-message-preserved g c = record {
  received = received_more c.args.block.now.seen c.loop-message.block.seen c.receive.new.block.seen c.args.messages.now _ _ _ _ _ c.loop-message-test.true c.loop-message.invariant.received
      (record { accepted = c.in-Ok.ensures.accepted; taken = c.in-Ok.ensures.taken; lawful = c.in-Ok.ensures.lawful })
      c.in-Ok.ensures.sends;
  counted = c.receive.ensures.counted;
}

pub returns-in-Err-clause-refused : goal.returns-in-Err-clause-refused
returns-in-Err-clause-refused g c =
    refused_at c.args.block.now c.loop-message.block c.receive.new.block c.args.messages.now _ _ _ _ _ c.loop-message-test.true c.loop-message.invariant.received
    c.in-Err.ensures.err c.in-Err.ensures.refused
