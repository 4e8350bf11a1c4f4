use Rattle.std.proofs.Common.{◌≡◌, subst, IfOk, string_bytes}
use Rattle.finding_words.specs.Names.{question}
use Rattle.finding_words.proofs.Answering.{if_ok}
use Rattle.finding_words.proofs.near.NearName.question.Goals as goal

pub returns : goal.returns
returns c =
    let asked : IfOk c.question.result (λ text. string_bytes text ≡ question c.args.self.now.rule.now (string_bytes c.in_ok-name.name)) =
    subst (λ quoted. IfOk c.question.result (λ text. string_bytes text ≡ question c.args.self.now.rule.now quoted)) c.as_str.ensures.value c.question.ensures in
    if_ok (λ text is. record { quoted = string_bytes c.in_ok-name.name; quotes = c.in_ok-name.ensures; is = is }) c.question.result asked
