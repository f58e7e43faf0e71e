use mathlib.Core.Path.{refl}
use native.Mathlib.Omega.{arith}
use borrow.Author.Rules.{rules}
use Rattle.terms_renaming.proofs.Filling.{fill_start, fill_step}
use Rattle.field_pairs.proofs.PairLaws.{flags_are}
use Rattle.fewest_lists.specs.Lists.{ApartFlagIs, ApartFlagsAre}
use Rattle.fewest_lists.proofs.lists.apart_flags.Goals as goal

pub loop-k-init : goal.loop-k-init
loop-k-init c = (search rules, refl, λ D e. fill_start _ _)

pub loop-k-preserved : goal.loop-k-preserved
unfolding ApartFlagIs
loop-k-preserved c = (
  search rules,
  search rules,
  λ D e. fill_step _ _ _ c.loop-k.k _ (omega arith) (c.apart_flag.ensures D e)
      (c.loop-k.invariant.2 D e),
)

pub returns : goal.returns
unfolding ApartFlagsAre
returns c = λ D e. flags_are D _ c.loop-k.invariant.1 (λ k h. (c.loop-k.invariant.2 D e).done k (omega arith))
