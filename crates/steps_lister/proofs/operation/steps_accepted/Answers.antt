use borrow.Author.Rules.{rules}
use Rattle.steps_lister.proofs.OperationLaws.{does_no_side, does_no_name, does_free, does_short, part_fits, does_list}
use Rattle.steps_lister.proofs.operation.steps_accepted.Goals as goal

pub returns-then-not-is_side : goal.returns-then-not-is_side
returns-then-not-is_side c =
    let v = c.args in
    does_no_side v.question.now v.side v.name v.area.now c.requires c.is_side.result c.is_side.ensures (c.if-not-is_side.true)

pub returns-then-name : goal.returns-then-name
returns-then-name c =
    let v = c.args in
    does_no_name v.question.now v.side v.name v.area.now c.requires c.is_side.result c.is_side.ensures (c.if-not-is_side.false) c.if-name.true

pub returns-then-is_free : goal.returns-then-is_free
returns-then-is_free c =
    let v = c.args in
    does_free v.question.now v.side v.name v.area.now c.requires
    c.is_side.result c.is_side.ensures
    (c.if-not-is_side.false) (search
    rules) c.side_of-part.result.now c.arities_of.result.now
    c.side_of-part.ensures c.arities_of.ensures c.is_free.result c.is_free.ensures
    c.if-is_free.true

pub returns-then-area-lt-LISTING_BYTES : goal.returns-then-area-lt-LISTING_BYTES
returns-then-area-lt-LISTING_BYTES c =
    let v = c.args in
    does_short v.question.now v.side v.name v.area.now
    c.requires
    c.is_side.result
    c.is_side.ensures (c.if-not-is_side.false)
    (search rules) c.side_of-part.result.now c.arities_of.result.now
    c.side_of-part.ensures c.arities_of.ensures c.is_free.result
    c.is_free.ensures c.if-is_free.false c.if-area-lt-LISTING_BYTES.true

pub list_into-requires : goal.list_into-requires
list_into-requires c =
    let v = c.args in (
      search rules,
      part_fits v.question.now v.side v.name v.area.now
          c.requires
          c.is_side.result
          c.is_side.ensures (c.if-not-is_side.false) (search rules)
          c.side_of-part.result.now c.arities_of.result.now
          c.side_of-part.ensures c.arities_of.ensures,
      c.requires,
    )

pub returns : goal.returns
returns c =
    let v = c.args in
    does_list v.question.now v.side v.name v.area.now
    c.requires
    c.is_side.result
    c.is_side.ensures (c.if-not-is_side.false) (search rules)
    c.side_of-part.result.now
    c.arities_of.result.now
    c.side_of-part.ensures
    c.arities_of.ensures
    c.is_free.result c.is_free.ensures
    c.if-is_free.false (search rules) _ _ c.list_into.ensures
