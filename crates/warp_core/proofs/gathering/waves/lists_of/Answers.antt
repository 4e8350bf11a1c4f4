use Rattle.std.proofs.Common.{◌≡◌, Vec, length, ◌∙◌, arith}
use Rattle.std.specs.declared.alloc.Global.{Global}
use Rattle.std.proofs.lemmas.List.{length-map}
use Rattle.gate_values.specs.declared.logic.Change.{Change}
use Rattle.gate_netlist.specs.Circuit.{nets_of}
use Rattle.net_waves.specs.Waves.{lists_in}
use Rattle.warp_core.proofs.GivenLogs.{blocks_within, blocks_apart, none_given, all_told, all_waves}
use Rattle.warp_core.proofs.gathering.waves.lists_of.Goals as goal

pub gather_logs-requires-clause-places : goal.gather_logs-requires-clause-places
gather_logs-requires-clause-places c = λ b q l i e k.
    let within = blocks_within c.args.circuit.now c.args.cut.now c.args.stimulus.now c.args.horizon c.args.blocks.items c.requires.cut c.law.ensures c.requires.count c.requires.parts b q l i e k in
    omega (arith, within, c.in_ok-lists.ensures.nets, c.nets.ensures.count)

pub gather_logs-requires-clause-none : goal.gather_logs-requires-clause-none
gather_logs-requires-clause-none c =
    let lists = c.in_ok-lists.lists.items in
    let same : length (lists_in lists) ≡ nets_of c.args.circuit.now =
    length-map lists (λ (v : Vec Change Global). v.items) ∙ (omega (arith, c.in_ok-lists.lists.ok.0, c.in_ok-lists.ensures.nets, c.nets.ensures.count)) in
    none_given c.args.circuit.now c.args.cut.now c.args.stimulus.now c.args.horizon c.args.blocks.items c.requires.cut c.law.ensures c.requires.count c.requires.parts
    (lists_in lists) same (λ n l. c.in_ok-lists.ensures.none n (omega (arith, l, c.nets.ensures.count)))

pub gather_logs-requires-clause-apart : goal.gather_logs-requires-clause-apart
gather_logs-requires-clause-apart c =
    blocks_apart c.args.circuit.now c.args.cut.now c.args.stimulus.now c.args.horizon c.args.blocks.items c.requires.cut c.law.ensures c.requires.count c.requires.parts

pub returns-clause-waves : goal.returns-clause-waves
returns-clause-waves c =
    let lists = c.in_ok-all.all.lists.items in
    let same : length (lists_in lists) ≡ nets_of c.args.circuit.now =
    length-map lists (λ (v : Vec Change Global). v.items) ∙ (omega (arith, c.in_ok-all.all.lists.ok.0, c.in_ok-all.ensures.len, c.in_ok-lists.ensures.nets, c.nets.ensures.count)) in
    all_waves c.args.circuit.now c.args.cut.now c.args.stimulus.now c.args.horizon c.args.blocks.items c.requires.cut c.law.ensures c.requires.count c.requires.parts
    (lists_in c.in_ok-lists.lists.items) (lists_in lists) same (λ n l. c.in_ok-lists.ensures.given n (omega (arith, l, c.nets.ensures.count))) c.in_ok-all.ensures.given c.requires.told

pub returns-clause-told : goal.returns-clause-told
returns-clause-told c = λ n within.
    let lists = c.in_ok-all.all.lists.items in
    let same : length (lists_in lists) ≡ nets_of c.args.circuit.now =
    length-map lists (λ (v : Vec Change Global). v.items) ∙ (omega (arith, c.in_ok-all.all.lists.ok.0, c.in_ok-all.ensures.len, c.in_ok-lists.ensures.nets, c.nets.ensures.count)) in
    all_told c.args.circuit.now c.args.cut.now c.args.stimulus.now c.args.horizon c.args.blocks.items c.requires.cut c.law.ensures c.requires.count c.requires.parts
    (lists_in c.in_ok-lists.lists.items) (lists_in lists) same (λ m l. c.in_ok-lists.ensures.given m (omega (arith, l, c.nets.ensures.count))) c.in_ok-all.ensures.given n within

pub returns-clause-nets : goal.returns-clause-nets
returns-clause-nets c = length-map c.in_ok-all.all.lists.items (λ (v : Vec Change Global). v.items) ∙ (omega (arith, c.in_ok-all.all.lists.ok.0, c.in_ok-all.ensures.len, c.in_ok-lists.ensures.nets, c.nets.ensures.count))
