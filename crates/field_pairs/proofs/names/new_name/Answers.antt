use native.Mathlib.Omega.{arith}
use borrow.Author.Rules.{rules}
use mathlib.Core.Path.{refl, sym, ◌∙◌}
use Rattle.field_pairs.proofs.NameFlagLaws.{sought_next, sought-found, sought-none}
use Rattle.field_pairs.proofs.names.new_name.Goals as goal

pub loop-n-init : goal.loop-n-init
loop-n-init c = (search rules, λ G h. refl)

pub returns-then-get-eq0 : goal.returns-then-get-eq0
returns-then-get-eq0 c = sought-found _ _ (omega arith) c.loop-n.invariant.1 (sym c.get.ensures ∙ c.if-get-eq0.true)

pub loop-n-preserved : goal.loop-n-preserved
loop-n-preserved c = (search rules, sought_next _ _ (omega arith) c.loop-n.invariant.1 (λ e. c.if-get-eq0.false (c.get.ensures ∙ e)))

pub returns : goal.returns
returns c = sought-none _ _ (omega arith) c.loop-n.invariant.1
