use Rattle.std.proofs.Common.{◌∙◌, ◌++◌, None, refl, sym, ap, inl, inr, Err, List, ℕ, Bor, option_map}
use Rattle.std.proofs.lemmas.Result.{err_from_is_err_and}
use Rattle.gate_vcd.specs.Declarations.{keyword_of}
use Rattle.gate_vcd.specs.Shown.Words.{token_of, texts}
use Rattle.gate_vcd.proofs.DeclarationLaws.{declared-alike}
use Rattle.vcd_bits.specs.Scopes.{path_noted}
use Rattle.vcd_bits.proofs.ScopedLaws.{declaring-bad, command_fails, effect_fails, command_goes_on, scopes-alike, scopes-declared}
use Rattle.vcd_bits.proofs.scoped.Scoped.read_command.Goals as goal

pub returns-then-not-opens_command-clause-goes_on : goal.returns-then-not-opens_command-clause-goes_on
returns-then-not-opens_command-clause-goes_on c s i =
    inr (declaring-bad s (token_of c.args.first) c.args.words.now (sym c.opens_command.ensures ∙ c.if-not-opens_command.true) ∙ ap Err (sym c.fault.ensures))

pub returns-in_err-body-clause-goes_on : goal.returns-in_err-body-clause-goes_on
returns-in_err-body-clause-goes_on c s i =
    let p = err_from_is_err_and c.from_residual.result c.from_residual.ensures.1 in
    rw (p.1, p.2) (command_fails s (token_of c.args.first) c.args.words.now _ (sym c.opens_command.ensures ∙ c.if-not-opens_command.false) c.in_err-body.ensures.body)

pub returns-in_err-declare-clause-goes_on : goal.returns-in_err-declare-clause-goes_on
returns-in_err-declare-clause-goes_on c s i =
    let p = err_from_is_err_and c.from_residual-in_err-declare.result c.from_residual-in_err-declare.ensures.1 in
    let (all, read, same) = c.in_ok-body.ensures.body in
    let alike = declared-alike None s.header (token_of c.args.first) (texts c.in_ok-body.body.items) all (keyword_of c.args.first.text.now) (rw c.keyword_of-keyword.ensures at same) in
    rw (p.1, p.2) (effect_fails s (token_of c.args.first) c.args.words.now _ all _ (sym c.opens_command.ensures ∙ c.if-not-opens_command.false) read (rw alike at (rw (c.deref.ensures.value, i.asked) at (c.in_err-declare.ensures.header s.header i.header))))

pub returns-in_err-note-clause-goes_on : goal.returns-in_err-note-clause-goes_on
returns-in_err-note-clause-goes_on c s i =
    let p = err_from_is_err_and c.from_residual-in_err-note.result c.from_residual-in_err-note.ensures.1 in
    rw (p.1, p.2) (inl c.in_err-note.ensures.noted)

pub returns-clause-goes_on : goal.returns-clause-goes_on
returns-clause-goes_on c s i =
    let (h, made, is) = c.in_ok-declare.ensures.header s.header i.header in
    let (all, read, same) = c.in_ok-body.ensures.body in
    let same_all = rw c.keyword_of-keyword.ensures at same in
    let alike = declared-alike None s.header (token_of c.args.first) (texts c.in_ok-body.body.items) all (keyword_of c.args.first.text.now) same_all in
    let again = rw alike at (rw (c.deref.ensures.value, i.asked) at made) in
    let noted = rw (c.deref-2.ensures.value, c.keyword_of-keyword.ensures) at (c.in_ok-note.ensures.noted s.header.scopes i.scopes) in
    let scopes = scopes-alike (keyword_of c.args.first.text.now) (texts c.in_ok-body.body.items) all s.header.scopes same_all ∙ sym (scopes-declared s.header h (token_of c.args.first) all (keyword_of c.args.first.text.now) again) in (
      record { header = h; paths = s.paths ++ path_noted (keyword_of c.args.first.text.now) s.header.scopes },
      command_goes_on s (token_of c.args.first) c.args.words.now h all _ (sym c.opens_command.ensures ∙ c.if-not-opens_command.false) read again ∙ rw (c.ends_declarations.ensures, c.keyword_of-keyword.ensures) refl,
      record {
        asked = rw (c.in_ok-note.ensures.declared) (ap (option_map (λ (a : Bor (List ℕ)). a.now)) c.in_ok-declare.ensures.asked ∙ i.asked);
        header = rw (c.in_ok-note.ensures.declared) is;
        scopes = rw (← scopes) noted.0;
        paths = noted.1 ∙ ap (λ ps. ps ++ path_noted (keyword_of c.args.first.text.now) s.header.scopes) i.paths;
      },
    )
