use Rattle.std.proofs.Common.{◌≡◌, None, ℤ, sym, ◌∙◌, subst, ◌≤ℤ◌, pos, negsuc}
use Rattle.std.specs.Fmt.{signed_decimal}
use Rattle.std.proofs.lemmas.Option.{same_Some, none-some}
use Rattle.log_text.specs.ReadWords.{numeral_in}
use Rattle.log_text.proofs.ReadWords.{numeral_some, numeral_none, numeral_low, numeral_high, kept}
use Rattle.log_text.proofs.read_words.number.Goals as goal

pub returns-in_err-value : goal.returns-in_err-value
returns-in_err-value c =
    let none : numeral_in c.args.word.now ≡ None =
    numeral_none c.args.word.now (λ z h is. none-some z (c.in_err-value.ensures z h is)) in
    cc

pub returns-in_err-number : goal.returns-in_err-number
returns-in_err-number c =
    let none : numeral_in c.args.word.now ≡ None =
    numeral_none c.args.word.now (λ z h is.
    let value : c.in_ok-value.value ≡ z = same_Some c.in_ok-value.value z (c.in_ok-value.ensures z h is) in
    let through = kept c.in_ok-value.value z value h in
    cc (c.in_err-number.ensures.valid.1 (
      subst (λ (n : ℤ). negsuc 2147483647 ≤ℤ n) (sym through) (numeral_low z h),
      subst (λ (n : ℤ). n ≤ℤ pos 4294967295) (sym through) (numeral_high z h),
    ))) in
    cc

pub returns-then-is_written : goal.returns-then-is_written
returns-then-is_written c =
    sym (numeral_some c.in_ok-number.number c.args.word.now c.is_written.ensures.range
    (c.is_written.ensures.text.0 c.if-is_written.true))

pub returns-else-is_written : goal.returns-else-is_written
returns-else-is_written c =
    sym (numeral_none c.args.word.now (λ z h is.
    let value : c.in_ok-value.value ≡ z = same_Some c.in_ok-value.value z (c.in_ok-value.ensures z h is) in
    let number : c.in_ok-number.number ≡ z = c.in_ok-number.ensures.value ∙ kept c.in_ok-value.value z value h in
    cc (
      c.is_written.ensures.text.1 (subst (λ (n : ℤ). c.args.word.now ≡ signed_decimal n) (sym number) is),
      c.if-is_written.false,
    )))
