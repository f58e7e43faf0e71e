use mathlib.Core.Path.{refl, ◌∙◌}
use native.Mathlib.Omega.{arith}
use Rattle.field_renewal.proofs.RenewingLaws.{copied-whole, part_whole, kept_out, not_renewed}
use borrow.Author.Rules.{rules}
use Rattle.field_renewal.proofs.renewing.renew_kept.Goals as goal

pub has_list-requires : goal.has_list-requires
has_list-requires c =
    (omega (arith, c.requires.3.room, c.requires.1.is, c.requires.1.among), c.requires.0)

pub copy-requires : goal.copy-requires
copy-requires c =
    let g = c.requires in
    (omega (arith, g.3.room, g.1.is, g.1.among), search rules)

pub renew-requires : goal.renew-requires
renew-requires c =
    let (n, k, l) = kept_out _ _ c.requires.3 _ c.requires.1 _ _ (c.has_list.ensures c.if-has_list.true) _ (c.copy.ensures ∙ copied-whole _
    c.args.area.now c.args.p refl (omega (arith, c.requires.3.room, c.requires.1.is, c.requires.1.among))) in (
      c.requires.0,
      n,
      k,
      l,
      c.requires.3,
    )

pub returns-then-has_list : goal.returns-then-has_list
returns-then-has_list c = c.renew.ensures

pub has_list-requires-2 : goal.has_list-requires-2
has_list-requires-2 c =
    (omega (arith, c.requires.2.room, c.requires.1.is, c.requires.1.among), c.requires.0)

pub overflow_add-p : goal.overflow_add-p
overflow_add-p c =
    omega (arith, c.requires.1.is, c.requires.1.among)

pub slice_bounds-renew-end-then-has_list-2 : goal.slice_bounds-renew-end-then-has_list-2
slice_bounds-renew-end-then-has_list-2 c =
    omega (arith, c.requires.2.room, c.requires.1.is, c.requires.1.among)

pub renew-requires-then-has_list-2 : goal.renew-requires-then-has_list-2
renew-requires-then-has_list-2 c =
    let (n, k, l) = kept_out _ _ c.requires.2 _ c.requires.1 _ _ (c.has_list-2.ensures c.if-has_list-2.true) _ (part_whole
    c.args.other.now c.args.p) in (c.requires.0, n, k, l, c.requires.3)

pub returns-then-has_list-2 : goal.returns-then-has_list-2
returns-then-has_list-2 c = c.renew-then-has_list-2.ensures

pub returns : goal.returns
returns c = not_renewed _ _ _ _ c.requires.3
