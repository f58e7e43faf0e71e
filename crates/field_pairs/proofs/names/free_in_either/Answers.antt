use mathlib.Core.Path.{refl}
use mathlib.Core.List.{[]}
use Rattle.calculus.specs.Free.{fn}
use Rattle.terms_renaming.specs.FreeFlags.{MarksFreeOf}
use Rattle.field_pairs.specs.NameFlags.{FreeInEitherIs}
use Rattle.field_pairs.proofs.NameFlagLaws.{no_names, more-names}
use Rattle.field_pairs.proofs.names.free_in_either.Goals as goal

pub returns : goal.returns
unfolding FreeInEitherIs MarksFreeOf
returns c =
    λ P Q g h p q. more-names Q (fn P) _ _ (c.mark_free-2.ensures Q h q c.mark_free.auto.flags) (more-names P [] _ _
    (c.mark_free.ensures P g p refl) no_names)
