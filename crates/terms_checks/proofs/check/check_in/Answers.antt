use mathlib.Core.Path.{sym, ◌∙◌}
use native.Mathlib.Omega.{arith}
use Rattle.terms_bytes.specs.Counted.{edition_from}
use Rattle.terms_checks.proofs.CheckWhole.{nothing_refused, version-refused, length-refused, framing_refused, framing_passed}
use Rattle.terms_checks.proofs.check.check_in.Goals as goal

pub returns-then-question-eq0 : goal.returns-then-question-eq0
returns-then-question-eq0 c = let a = c.args in nothing_refused (edition_from a.counted) a.question.now c.if-question-eq0.true

pub returns-then-get-version_byte : goal.returns-then-get-version_byte
returns-then-get-version_byte c =
    let a = c.args in
    version-refused (edition_from a.counted) a.question.now (omega arith) (λ e. c.if-get-version_byte.true (c.get.ensures ∙ e ∙ sym
    c.version_byte.ensures))

pub returns-then-question-gt-LONGEST_QUESTION : goal.returns-then-question-gt-LONGEST_QUESTION
returns-then-question-gt-LONGEST_QUESTION c =
    let a = c.args in
    length-refused (edition_from a.counted) a.question.now (omega arith) (sym c.get.ensures ∙ c.if-get-version_byte.false ∙
    c.version_byte.ensures) c.if-question-gt-LONGEST_QUESTION.true

pub returns-then-not-framed_whole : goal.returns-then-not-framed_whole
returns-then-not-framed_whole c =
    let a = c.args in
    framing_refused (edition_from a.counted) a.question.now (omega arith) (sym c.get.ensures ∙ c.if-get-version_byte.false ∙ c.version_byte.ensures)
    c.if-question-gt-LONGEST_QUESTION.false (λ i. (c.shared_slice_known-1.given i).fits) (sym c.framed_whole.ensures ∙ c.if-not-framed_whole.true)

pub returns : goal.returns
returns c =
    let a = c.args in
    framing_passed (edition_from a.counted) a.question.now (omega arith) (sym c.get.ensures ∙ c.if-get-version_byte.false ∙ c.version_byte.ensures)
    c.if-question-gt-LONGEST_QUESTION.false (λ i. (c.shared_slice_known-1.given i).fits) (sym c.framed_whole.ensures ∙ c.if-not-framed_whole.false) ∙ c.check_fields.ensures
