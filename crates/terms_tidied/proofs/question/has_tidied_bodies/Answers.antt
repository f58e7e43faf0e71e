use mathlib.Core.Bool.{true≢false}
use mathlib.Core.Path.{sym, ap, subst, ◌∙◌}
use native.Mathlib.Numerals.{add-one}
use native.Mathlib.Omega.{arith}
use Rattle.terms_bytes.specs.FieldPlaces.{after_field, field_place}
use Rattle.terms_tidying.specs.TidiedTerms.{IsTidiedIs}
use Rattle.terms_tidied.proofs.TidiedAlready.{none_below, one_more, all_looked_at}
use Rattle.terms_tidied.proofs.question.has_tidied_bodies.Goals as goal

pub loop-definition-init : goal.loop-definition-init
loop-definition-init c = (none_below _, c.field_place-at.ensures, omega arith)

pub returns-then-not-is_tidied : goal.returns-then-not-is_tidied
returns-then-not-is_tidied c = λ e. absurd (true≢false (sym e))

pub loop-definition-preserved : goal.loop-definition-preserved
unfolding field_place
loop-definition-preserved c = (
  one_more c.args.question.now c.loop-definition.definition c.loop-definition.invariant.0 c.loop-definition.at c.loop-definition.invariant.1 c.field_at.result.now
      c.field_at.ensures c.arities-list.result.now c.arities-list.ensures (omega (arith, c.loop-definition-test.true, c.definitions-last.ensures.0))
      (subst (IsTidiedIs c.field_at.result.now c.arities-list.result.now) (c.if-not-is_tidied.false)
      c.is_tidied.ensures),
  rw add-one (c.after_field-at.ensures ∙ ap (after_field _) c.loop-definition.invariant.1),
  omega arith,
)

pub returns : goal.returns
returns c =
    λ e. all_looked_at c.args.question.now c.loop-definition.definition c.loop-definition.invariant.0 (omega (arith, c.loop-definition-test.false, c.definitions-last.ensures.0))
