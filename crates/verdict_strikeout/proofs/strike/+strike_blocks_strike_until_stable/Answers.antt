use native.Mathlib.Omega.{arith}
use borrow.Author.Rules.{rules}
use mathlib.Core.Logic.{inr}
use mathlib.Core.Path.{refl, sym, subst}
use Prim.Native.Nat.{ℕ, ◌+◌, ◌-◌, ◌/◌, ◌<◌}
use Rattle.verdict_answers.specs.Striking.{Run}
use Rattle.verdict_strikeout.proofs.BlockLaws.{Blocks, width_none, width_some, width_most, block_begins}
use Rattle.verdict_strikeout.proofs.StrikeLaws.{turned-below, one_pass, pass_none, pass_within, pass_strikes, pass_keeps, parts_none, part_strikes, part_keeps, blocks_passed}
use Rattle.verdict_strikeout.proofs.strike.+strike_blocks_strike_until_stable.Goals as goal

pub strike_until_stable-strike_one-requires : goal.strike_until_stable-strike_one-requires
strike_until_stable-strike_one-requires t c =
    (omega (arith, c.requires.0, c.requires.4 c.if-level-eq0.true), c.requires.1, c.requires.2, c.requires.3)

pub strike_until_stable-returns-then-level-eq0 : goal.strike_until_stable-returns-then-level-eq0
strike_until_stable-returns-then-level-eq0 t c = (
  pass_within _ _ _ _ (Run c.args.pass.from c.args.pass.size) (λ j h m. (
    m.0,
    omega (
      arith,
      m.1,
      c.requires.4
          c.if-level-eq0.true,
    ),
  )) (one_pass _ _ _ _ _ _ _ _ (omega (arith, c.requires.0, c.requires.4 c.if-level-eq0.true)) (omega (
    arith,
    c.requires.1.1,
    c.requires.1.3,
  )) c.strike_one.ensures.0),
  c.strike_one.ensures.1,
  c.strike_one.ensures.2,
)

pub strike_until_stable-loop-search-init : goal.strike_until_stable-loop-search-init
strike_until_stable-loop-search-init t c =
    (refl, refl, refl, refl, refl, c.requires.2.3, c.requires.2.4, pass_none _ _ _ _ _ (λ j. ⊥) (λ j h. h) c.requires.3)

pub strike_until_stable-overflow_sub-below : goal.strike_until_stable-overflow_sub-below
strike_until_stable-overflow_sub-below t c = omega (arith, c.if-level-eq0.false)

pub strike_until_stable-strike_blocks-requires : goal.strike_until_stable-strike_blocks-requires
strike_until_stable-strike_blocks-requires t c = (
  omega (arith, c.decreases, c.if-level-eq0.false),
  (
    c.requires.0,
    (
      c.requires.1.0,
      c.requires.1.1,
      c.requires.1.2,
      omega (
        arith,
        c.requires.1.3,
        c.loop-search.invariant.0,
      ),
    ),
    (
      c.requires.2.0,
      omega (arith, c.requires.2.1, c.loop-search.invariant.1),
      omega (
        arith,
        c.requires.2.2,
        c.loop-search.invariant.2,
      ),
      c.loop-search.invariant.5,
      c.loop-search.invariant.6,
    ),
    c.loop-search.invariant.7.noted,
  ),
)

pub strike_until_stable-returns-then-not-strike_blocks : goal.strike_until_stable-returns-then-not-strike_blocks
strike_until_stable-returns-then-not-strike_blocks t c = (
  pass_keeps _ _ _ _ (Run c.args.pass.from c.args.pass.size) c.loop-search.invariant.7 c.strike_blocks.ensures.0 (c.if-not-strike_blocks.true) (λ j h m. inr m),
  c.strike_blocks.ensures.1,
  c.strike_blocks.ensures.2,
)

pub strike_until_stable-loop-search-smaller : goal.strike_until_stable-loop-search-smaller
strike_until_stable-loop-search-smaller t c =
    c.strike_blocks.ensures.0.fewer (c.if-not-strike_blocks.false)

pub strike_until_stable-loop-search-preserved : goal.strike_until_stable-loop-search-preserved
strike_until_stable-loop-search-preserved t c = (
  omega (arith, c.loop-search.invariant.0, c.strike_blocks.auto),
  omega (arith, c.loop-search.invariant.1, c.strike_blocks.auto),
  omega (
    arith,
    c.loop-search.invariant.2,
    c.strike_blocks.auto,
  ),
  omega (arith, c.loop-search.invariant.3, c.strike_blocks.auto),
  omega (
    arith,
    c.loop-search.invariant.4,
    c.strike_blocks.auto,
  ),
  c.strike_blocks.ensures.1,
  c.strike_blocks.ensures.2,
  pass_strikes _ _ _ _ (λ j. ⊥) c.loop-search.invariant.7
      c.strike_blocks.ensures.0 (omega (arith, c.requires.1.1, c.requires.1.3)) (c.if-not-strike_blocks.false),
)

pub strike_blocks-overflow_add-blocks : goal.strike_blocks-overflow_add-blocks
strike_blocks-overflow_add-blocks t c =
    omega (
      arith,
      c.width-block.ensures,
      width_some c.args.pass.level,
      width_most c.args.pass.level,
      c.requires.0,
      c.requires.1.1,
      c.requires.1.2,
    )

pub strike_blocks-overflow_sub-blocks : goal.strike_blocks-overflow_sub-blocks
strike_blocks-overflow_sub-blocks t c =
    omega (arith, c.width-block.ensures, width_some c.args.pass.level, width_most c.args.pass.level)

pub strike_blocks-nonzero_div-blocks : goal.strike_blocks-nonzero_div-blocks
strike_blocks-nonzero_div-blocks t c =
    omega (arith, c.width-block.ensures, width_some c.args.pass.level, width_most c.args.pass.level)

pub strike_blocks-loop-i-init : goal.strike_blocks-loop-i-init
strike_blocks-loop-i-init t c =
    (search rules, refl, refl, refl, refl, refl, c.requires.2.3, c.requires.2.4, parts_none _ _ _ _ _ _ _ _ c.requires.3)

pub strike_blocks-turn-requires : goal.strike_blocks-turn-requires
strike_blocks-turn-requires t c = omega (arith, c.loop-i.invariant.0, c.loop-i-test.true)

pub strike_blocks-overflow_mul-at : goal.strike_blocks-overflow_mul-at
strike_blocks-overflow_mul-at t c =
    let v = c.args in
    omega (
      arith,
      block_begins v.pass.level v.pass.size c.width-block.result c.turn.result c.width-block.ensures (subst (λ (k : ℕ). k <
          ((v.pass.size + c.width-block.result - 1) / c.width-block.result)) (sym c.turn.ensures) (turned-below v.pass.rising ((v.pass.size +
          c.width-block.result - 1) / c.width-block.result) (c.loop-i.i - 1) (omega (arith, c.loop-i.invariant.0, c.loop-i-test.true)))),
      c.requires.0,
      c.requires.1.1,
      c.requires.1.2,
    )

pub strike_blocks-overflow_add-at : goal.strike_blocks-overflow_add-at
strike_blocks-overflow_add-at t c =
    let v = c.args in
    omega (
      arith,
      block_begins v.pass.level v.pass.size c.width-block.result c.turn.result c.width-block.ensures (subst (λ (k : ℕ). k <
          ((v.pass.size + c.width-block.result - 1) / c.width-block.result)) (sym c.turn.ensures) (turned-below v.pass.rising ((v.pass.size +
          c.width-block.result - 1) / c.width-block.result) (c.loop-i.i - 1) (omega (arith, c.loop-i.invariant.0, c.loop-i-test.true)))),
      c.requires.0,
      c.requires.1.1,
      c.requires.1.2,
    )

pub strike_blocks-overflow_add-from : goal.strike_blocks-overflow_add-from
strike_blocks-overflow_add-from t c =
    omega (arith, c.requires.0, c.requires.1.1, c.requires.1.2)

pub strike_blocks-block_size-part-requires : goal.strike_blocks-block_size-part-requires
strike_blocks-block_size-part-requires t c =
    let v = c.args in
    omega (
      arith,
      block_begins v.pass.level v.pass.size c.width-block.result c.turn.result c.width-block.ensures (subst (λ (k : ℕ). k <
          ((v.pass.size + c.width-block.result - 1) / c.width-block.result)) (sym c.turn.ensures) (turned-below v.pass.rising ((v.pass.size +
          c.width-block.result - 1) / c.width-block.result) (c.loop-i.i - 1) (omega (arith, c.loop-i.invariant.0, c.loop-i-test.true)))),
    )

pub strike_blocks-strike_until_stable-requires : goal.strike_blocks-strike_until_stable-requires
strike_blocks-strike_until_stable-requires t c =
    let v = c.args in
    let b = block_begins v.pass.level v.pass.size c.width-block.result c.turn.result c.width-block.ensures (subst (λ (k : ℕ). k <
    ((v.pass.size + c.width-block.result - 1) / c.width-block.result)) (sym c.turn.ensures) (turned-below v.pass.rising ((v.pass.size +
    c.width-block.result - 1) / c.width-block.result) (c.loop-i.i - 1) (omega (arith, c.loop-i.invariant.0, c.loop-i-test.true)))) in (
      omega (arith, c.decreases),
      (
        omega (arith, b, c.block_size-part.ensures, c.requires.0),
        (
          c.requires.1.0,
          c.requires.1.1,
          c.requires.1.2,
          omega (arith, c.requires.1.3, c.loop-i.invariant.1),
        ),
        (
          c.requires.2.0,
          omega (arith, c.requires.2.1, c.loop-i.invariant.2),
          omega (
            arith,
            c.requires.2.2,
            c.loop-i.invariant.3,
          ),
          c.loop-i.invariant.6,
          c.loop-i.invariant.7,
        ),
        c.loop-i.invariant.8.noted,
        λ e. omega (
          arith,
          b,
          c.block_size-part.ensures,
          c.width-block.ensures,
          width_none v.pass.level e,
        ),
      ),
    )

pub strike_blocks-loop-i-preserved-then-strike_until_stable : goal.strike_blocks-loop-i-preserved-then-strike_until_stable
strike_blocks-loop-i-preserved-then-strike_until_stable t c =
    let v = c.args in (
      search rules,
      search rules,
      search rules,
      search rules,
      search rules,
      search rules,
      c.strike_until_stable.ensures.1,
      c.strike_until_stable.ensures.2,
      part_strikes _ _ _ _ _
          _ (Blocks v.pass.from v.pass.size
          c.width-block.result)
          c.loop-i.i
          _ _ (omega (
            arith,
            c.loop-i-test.true,
          ))
          c.turn.ensures
          c.loop-i.invariant.8
          (pass_within _ _ _ _ (Blocks v.pass.from v.pass.size
          c.width-block.result
          c.turn.result)
          (λ j h m. (
            m.0,
            omega (
              arith,
              m.1,
              c.block_size-part.ensures,
            ),
          )) c.strike_until_stable.ensures.0) (omega (
            arith,
            c.requires.1.1,
            c.requires.1.3,
          )) c.if-strike_until_stable.true,
    )

pub strike_blocks-loop-i-preserved : goal.strike_blocks-loop-i-preserved
strike_blocks-loop-i-preserved t c =
    let v = c.args in (
      search rules,
      search rules,
      search rules,
      search rules,
      search rules,
      search rules,
      c.strike_until_stable.ensures.1,
      c.strike_until_stable.ensures.2,
      part_keeps _ _ _ _ _ _
          (Blocks v.pass.from v.pass.size
          c.width-block.result)
          c.loop-i.i
          _ _ (omega (
            arith,
            c.loop-i-test.true,
          ))
          c.turn.ensures
          c.loop-i.invariant.8
          (pass_within _ _ _ _ (Blocks v.pass.from v.pass.size
          c.width-block.result
          c.turn.result)
          (λ j h m. (
            m.0,
            omega (
              arith,
              m.1,
              c.block_size-part.ensures,
            ),
          )) c.strike_until_stable.ensures.0)
          c.if-strike_until_stable.false,
    )

pub strike_blocks-returns : goal.strike_blocks-returns
strike_blocks-returns t c =
    let v = c.args in (
      blocks_passed _ _ _ _ _ v.pass.from v.pass.size v.pass.level c.width-block.result _ c.loop-i.i c.width-block.ensures refl (omega
          arith) c.loop-i.invariant.8,
      c.loop-i.invariant.6,
      c.loop-i.invariant.7,
    )
