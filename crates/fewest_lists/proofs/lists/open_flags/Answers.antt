use mathlib.Core.Path.{refl}
use native.Mathlib.Omega.{arith}
use borrow.Author.Rules.{rules}
use Rattle.terms_renaming.proofs.Filling.{fill_start, fill_step}
use Rattle.fewest.specs.Choices.{may_choose}
use Rattle.fewest_lists.specs.Lists.{OpenFlagIs, OpenFlagsAre, open_flags}
use Rattle.fewest_lists.proofs.FlagLaws.{tested_are}
use Rattle.fewest_lists.proofs.lists.open_flags.Goals as goal

pub loop-k-init : goal.loop-k-init
loop-k-init c = (search rules, refl, λ D e. fill_start _ _)

pub loop-k-preserved : goal.loop-k-preserved
unfolding OpenFlagIs
loop-k-preserved c = (
  search rules,
  search rules,
  λ D e. fill_step _ _ _ c.loop-k.k _ (omega arith) (c.open_flag.ensures D e)
      (c.loop-k.invariant.2 D e),
)

pub returns : goal.returns
unfolding OpenFlagsAre open_flags
returns c =
    λ D e. tested_are (may_choose c.args.names.now D) _ c.loop-k.invariant.1 (λ k h. (c.loop-k.invariant.2 D e).done k (omega arith))
