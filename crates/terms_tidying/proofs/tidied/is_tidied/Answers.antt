use mathlib.Core.Path.{sym, ◌∙◌}
use Rattle.terms_tidying.proofs.TidiedWalk.{no_byte, untold}
use Rattle.terms_tidying.proofs.tidied.is_tidied.Goals as goal

-- src/tidied.rt:149:9
pub returns-then-not-occurs : goal.returns-then-not-occurs
returns-then-not-occurs c =
    no_byte c.args.src.now c.args.arities.now (sym c.occurs.ensures ∙ c.if-not-occurs.true)

-- src/tidied.rt:152:9
pub returns-then-src-gt-BINDERS : goal.returns-then-src-gt-BINDERS
returns-then-src-gt-BINDERS c = untold _ _
