use Rattle.std.proofs.Common.{◌≡◌, ◌++◌, codes, subst, IfOk, string_bytes}
use Rattle.text_places.specs.Told.{IsShown}
use Rattle.finding_words.specs.Sentences.{quote_end}
use Rattle.finding_words.proofs.Answering.{if_ok}
use Rattle.finding_words.proofs.sentences.quoted.Goals as goal

pub returns : goal.returns
returns c =
    let letters = string_bytes c.in_ok-letters.letters in
    let told : IfOk c.in_quotes.result (λ text. string_bytes text ≡ codes "`" ++ (letters ++ c.quote_end.result.now)) =
    subst (λ shown. IfOk c.in_quotes.result (λ text. string_bytes text ≡ codes "`" ++ (shown ++ c.quote_end.result.now))) c.as_str.ensures.value c.in_quotes.ensures in
    let quoted : IfOk c.in_quotes.result (λ text. string_bytes text ≡ codes "`" ++ (letters ++ quote_end c.args.word.now)) =
    subst (λ end. IfOk c.in_quotes.result (λ text. string_bytes text ≡ codes "`" ++ (letters ++ end))) c.quote_end.ensures told in
    if_ok (λ text is. record {
      shown = letters;
      is_shown = subst (λ front. IsShown front letters) c.front.ensures c.in_ok-letters.ensures;
      is = is;
    }) c.in_quotes.result quoted
