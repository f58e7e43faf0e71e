use mathlib.Core.Path.{sym, ap, ◌∙◌}
use native.Mathlib.Omega.{arith}
use Rattle.calculus.specs.Distinction.{among}
use Rattle.fewest_lists.specs.Lists.{OpenFlagIs}
use Rattle.fewest_lists.proofs.FlagLaws.{flag-set, flag_unset, held_already, first_not_given, second_not_given, both-given, set_apart, unset_apart}
use Rattle.field_pairs.specs.PairNumbers.{pair_at}
use Rattle.terms.specs.Limits.{name_count}
use Rattle.fewest_lists.proofs.lists.open_flag.Goals as goal

pub returns-then-apart-k-ne0 : goal.returns-then-apart-k-ne0
unfolding OpenFlagIs
returns-then-apart-k-ne0 c =
    let v = c.args in
    λ D e. flag_unset _ (held_already v.names.now D (pair_at name_count v.k).0 (pair_at name_count v.k).1 (set_apart v.apart.now D v.k (omega arith) e
    c.if-apart-k-ne0.true))

pub returns-then-not-has_name : goal.returns-then-not-has_name
unfolding OpenFlagIs
returns-then-not-has_name c =
    let v = c.args in
    λ D e. flag_unset _ (first_not_given v.names.now D (pair_at name_count v.k).0 (pair_at name_count v.k).1 (sym (c.if-not-has_name.true) ∙
    c.has_name.ensures ∙ ap (among v.names.now) c.pair_of-pair.ensures.first.is))

pub returns-then-not-has_name-2 : goal.returns-then-not-has_name-2
unfolding OpenFlagIs
returns-then-not-has_name-2 c =
    let v = c.args in
    λ D e. flag_unset _ (second_not_given v.names.now D (pair_at name_count v.k).0 (pair_at name_count v.k).1 (sym (c.if-not-has_name-2.true) ∙
    c.has_name-2.ensures ∙ ap (among v.names.now) c.pair_of-pair.ensures.second.is))

pub returns : goal.returns
unfolding OpenFlagIs
returns c =
    let v = c.args in
    λ D e. flag-set _ (both-given v.names.now D (pair_at name_count v.k).0 (pair_at name_count v.k).1 (unset_apart v.apart.now D v.k (omega arith) e
    c.if-apart-k-ne0.false) (sym (c.if-not-has_name.false) ∙ c.has_name.ensures ∙ ap (among v.names.now) c.pair_of-pair.ensures.first.is) (sym
    (c.if-not-has_name-2.false) ∙ c.has_name-2.ensures ∙ ap (among v.names.now) c.pair_of-pair.ensures.second.is))
