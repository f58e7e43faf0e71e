use mathlib.Core.Path.{ap, subst, sym, ◌∙◌}
use lib.Seq.{length-take-le}
use native.Mathlib.Omega.{arith}
use borrow.Author.Rules.{rules}
use Rattle.terms_bytes.specs.FieldPlaces.{field_place}
use Rattle.fewest_lists.specs.Lists.{PairsWritten}
use Rattle.fewest_lists.proofs.PairWriting.{flagged-bytes}
use Rattle.fewest_search.specs.Searching.{SizesIs}
use Rattle.fewest_search.proofs.ApartLaws.{found_is}
use Rattle.fewest_search.proofs.apart.find.Goals as goal

pub slice_bounds-pairs-end : goal.slice_bounds-pairs-end
unfolding PairsWritten
slice_bounds-pairs-end c =
    omega (arith, c.write_pairs-end.ensures.ends, flagged-bytes c.open_flags-choosable.result)

pub slice_bounds-search_sizes-end : goal.slice_bounds-search_sizes-end
unfolding PairsWritten
slice_bounds-search_sizes-end c =
    sym (length-take-le _ _ (omega (arith, c.write_pairs-end.ensures.ends, flagged-bytes c.open_flags-choosable.result)))

pub search_sizes-requires : goal.search_sizes-requires
search_sizes-requires c =
    c.requires

pub returns : goal.returns
returns c =
    let v = c.args in
    found_is v.question.now v.capacity v.names.now v.work.now
    c.field_place-first.result
    c.after_field-second.result
    c.after_field.result _
    c.apart_flags-flags.result
    c.open_flags-choosable.result _ _
    c.write_pairs-end.result c.search_sizes.result
    c.search_sizes.new.work
    (c.field_place-first.ensures
    ∙ ap (field_place v.question.now)
    c.definitions.ensures.0)
    c.after_field-second.ensures
    c.after_field.ensures
    c.field_at.ensures
    c.apart_flags-flags.ensures
    c.open_flags-choosable.ensures (search rules)
    c.write_pairs-end.ensures c.search_sizes.ensures
