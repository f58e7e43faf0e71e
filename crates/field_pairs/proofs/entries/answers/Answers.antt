use native.Mathlib.Omega.{arith}
use Rattle.field_pairs.specs.Entry.{channel_byte, object_byte}
use Prim.Native.Nat.{◌+◌}
use Rattle.field_pairs.proofs.EntryLaws.{answers_short, answers_other_short, answers_kind, answers_channel, answers_object, answers_implied}
use Rattle.field_pairs.proofs.entries.answers.Goals as goal

pub returns-then-area-at-lt-ACTION_END : goal.returns-then-area-at-lt-ACTION_END
returns-then-area-at-lt-ACTION_END c =
    let v = c.args in
    answers_short v.area.now v.at v.others.now v.place (omega arith)

pub returns-then-others-place-lt-ACTION_END : goal.returns-then-others-place-lt-ACTION_END
returns-then-others-place-lt-ACTION_END c =
    let v = c.args in
    answers_other_short v.area.now v.at v.others.now v.place (omega arith)

pub returns-then-area-at : goal.returns-then-area-at
returns-then-area-at c =
    let v = c.args in
    answers_kind v.area.now v.at v.others.now v.place c.if-area-at.true

pub overflow_cast-channel : goal.overflow_cast-channel
overflow_cast-channel c = omega (arith, c.shared_slice_known-5-1.given (c.args.place + channel_byte))

pub overflow_cast-area : goal.overflow_cast-area
overflow_cast-area c = omega (arith, c.shared_slice_known-6-1.given (c.args.at + channel_byte))

pub returns-then-area-at-2 : goal.returns-then-area-at-2
returns-then-area-at-2 c =
    let v = c.args in
    answers_channel v.area.now v.at v.others.now v.place _ c.class_of.ensures c.if-area-at-2.true

pub overflow_cast-object : goal.overflow_cast-object
overflow_cast-object c =
    omega (arith, c.shared_slice_known-7-1.given (c.args.place + object_byte))

pub overflow_cast-area-2 : goal.overflow_cast-area-2
overflow_cast-area-2 c =
    omega (arith, c.shared_slice_known-8-1.given (c.args.at + object_byte))

pub returns-then-area-at-3 : goal.returns-then-area-at-3
returns-then-area-at-3 c =
    let v = c.args in
    answers_object v.area.now v.at v.others.now v.place _ c.class_of-2.ensures c.if-area-at-3.true

pub returns : goal.returns
returns c =
    let v = c.args in
    answers_implied v.area.now v.at v.others.now v.place _ _ c.class_of.ensures c.class_of-2.ensures
    c.if-area-at.false c.if-area-at-2.false c.if-area-at-3.false _ c.implies.ensures
