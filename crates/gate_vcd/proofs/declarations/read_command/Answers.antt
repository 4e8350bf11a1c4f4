use Rattle.std.proofs.Common.{◌∙◌, refl, sym, ap, inr, Err}
use Rattle.std.proofs.lemmas.Result.{err_from_is_err_and}
use Rattle.gate_vcd.specs.Declarations.{keyword_of}
use Rattle.gate_vcd.specs.Shown.Headers.{asked_of}
use Rattle.gate_vcd.specs.Shown.Words.{token_of, texts}
use Rattle.gate_vcd.proofs.DeclarationLaws.{declaring-bad, command_fails, effect_fails, command_goes_on, declared-alike}
use Rattle.gate_vcd.proofs.declarations.read_command.Goals as goal

pub returns-then-not-opens_command-clause-header : goal.returns-then-not-opens_command-clause-header
returns-then-not-opens_command-clause-header c h i =
    inr (declaring-bad _ h (token_of c.args.first) c.args.words.now (sym c.opens_command.ensures ∙ c.if-not-opens_command.true) ∙ ap Err (sym c.fault.ensures))

pub returns-in_err-body-clause-header : goal.returns-in_err-body-clause-header
returns-in_err-body-clause-header c h i =
    let p = err_from_is_err_and c.from_residual.result c.from_residual.ensures.1 in
    rw (p.1, p.2) (command_fails _ h (token_of c.args.first) c.args.words.now _ (sym c.opens_command.ensures ∙ c.if-not-opens_command.false) c.in_err-body.ensures.body)

pub returns-in_err-declare-clause-header : goal.returns-in_err-declare-clause-header
returns-in_err-declare-clause-header c h i =
    let p = err_from_is_err_and c.from_residual-in_err-declare.result c.from_residual-in_err-declare.ensures.1 in
    let (all, read, same) = c.in_ok-body.ensures.body in
    let alike = declared-alike (asked_of c.args.declared.now) h (token_of c.args.first) (texts c.in_ok-body.body.items) all (keyword_of c.args.first.text.now) (rw c.keyword_of-keyword.ensures at same) in
    rw (p.1, p.2) (effect_fails _ h (token_of c.args.first) c.args.words.now _ all _ (sym c.opens_command.ensures ∙ c.if-not-opens_command.false) read (rw alike at (rw c.deref.ensures.value at c.in_err-declare.ensures.header h i)))

pub returns-clause-header : goal.returns-clause-header
returns-clause-header c h i =
    let (next, made, is) = c.in_ok-declare.ensures.header h i in
    let (all, read, same) = c.in_ok-body.ensures.body in
    let alike = declared-alike (asked_of c.args.declared.now) h (token_of c.args.first) (texts c.in_ok-body.body.items) all (keyword_of c.args.first.text.now) (rw c.keyword_of-keyword.ensures at same) in
    let again = rw alike at (rw c.deref.ensures.value at made) in
    (next, command_goes_on _ h (token_of c.args.first) c.args.words.now next all _ (sym c.opens_command.ensures ∙ c.if-not-opens_command.false) read again ∙ rw (c.ends_declarations.ensures, c.keyword_of-keyword.ensures) refl, is)
