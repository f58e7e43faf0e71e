use mathlib.Core.Path.{refl}
use lib.ListN.{get_or-replicate}
use Rattle.terms.specs.Limits.{name_count}
use Rattle.terms_renaming.specs.FreeFlags.{MarksFreeOf, FreeFlagsOf}
use Rattle.terms_renaming.proofs.FreeMarks.{flags_free}
use Rattle.terms_renaming.proofs.free.free_names.Goals as goal

pub returns : goal.returns
unfolding MarksFreeOf FreeFlagsOf
returns c = λ P sc e. flags_free P _ _ (λ n h. get_or-replicate name_count n 0 0 h) (c.mark_free.ensures P sc e refl)
