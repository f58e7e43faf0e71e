use mathlib.Core.Path.{◌≡◌, refl, sym, subst, ◌∙◌}
use Prim.Native.Nat.{◌+◌}
use native.Mathlib.Omega.{arith}
use lib.ListN.{length, take}
use borrow.Author.Tests.{leb-true, leb-false}
use Rattle.terms_restrictions.specs.Unused.{BindsNothing}
use Rattle.terms_tidying.proofs.TidyWalk.{agrees, outside_byte, stays, goes, tidied_nowhere, tidied-none, tidied_one, tidied_two, beneath-inside, beneath-fits, beneath-tidied, beneath_place, first_place_lem, second_place_lem, taken, lowered_place}
use Rattle.terms_tidying.proofs.tidy.+tidy_tidy_unrestricted.Goals as goal

-- src/tidy.rt:93:39
pub tidy-overflow_add-at : goal.tidy-overflow_add-at
tidy-overflow_add-at t c =
    omega (arith, c.well_formed, c.binds_nothing.ensures.inside c.if-binds_nothing.true)

-- src/tidy.rt:93:9
pub tidy-tidy_unrestricted-requires : goal.tidy-tidy_unrestricted-requires
tidy-tidy_unrestricted-requires t c =
    let a = c.args in
    let l = c.binds_nothing.ensures.inside c.if-binds_nothing.true in
    (beneath_place a.at (length a.src.now) t l c.decreases, (omega (arith, l), c.requires.1))

-- src/tidy.rt:93:9
pub tidy-returns-then-binds_nothing : goal.tidy-returns-then-binds_nothing
tidy-returns-then-binds_nothing t c =
    let a = c.args in
    let l = c.binds_nothing.ensures.inside c.if-binds_nothing.true in
    let R = c.tidy_unrestricted.ensures in
    record {
      on = omega (arith, R.on);
      inside = omega (arith, R.inside, l);
      room = R.room;
      is = goes a.src.now a.at a.arities.now
          a.out.now a.put (subst (BindsNothing a.src.now a.at a.arities.now) c.if-binds_nothing.true c.binds_nothing.ensures.is) _ _
          R.is;
    }

pub tidy-returns-in_default : goal.tidy-returns-in_default
tidy-returns-in_default t c =
    let a = c.args in
    record {
      on = omega arith;
      inside = omega arith;
      room = omega arith;
      is = tidied_nowhere a.src.now a.at a.arities.now a.out.now a.put _ _ c.in_default.ensures;
    }

-- src/tidy.rt:100:19
pub tidy-overflow_add-result : goal.tidy-overflow_add-result
tidy-overflow_add-result t c =
    omega (arith, c.in-Some.ensures, c.well_formed)

-- src/tidy.rt:101:22
pub tidy-overflow_add-result-then-subterms-eq0 : goal.tidy-overflow_add-result-then-subterms-eq0
tidy-overflow_add-result-then-subterms-eq0 t c =
    omega (arith, c.in-Some.ensures, c.well_formed)

-- src/tidy.rt:99:9
pub tidy-returns-then-subterms-eq0 : goal.tidy-returns-then-subterms-eq0
tidy-returns-then-subterms-eq0 t c =
    let a = c.args in
    let h = c.in-Some.h in
    let F = c.in-Some.ensures in
    record {
      on = omega arith;
      inside = F.inside;
      room = F.room;
      is = tidied-none a.src.now a.at a.arities.now a.out.now a.put h _
          F (stays a.src.now a.at a.arities.now (subst (BindsNothing a.src.now a.at a.arities.now) c.if-binds_nothing.false
          c.binds_nothing.ensures.is)) c.if-subterms-eq0.true;
    }

-- src/tidy.rt:104:27
pub tidy-overflow_add-at-2 : goal.tidy-overflow_add-at-2
tidy-overflow_add-at-2 t c =
    omega (arith, c.in-Some.ensures, c.well_formed)

-- src/tidy.rt:104:49
pub tidy-overflow_add-put : goal.tidy-overflow_add-put
tidy-overflow_add-put t c =
    omega (arith, c.in-Some.ensures, c.well_formed)

-- src/tidy.rt:104:9
pub tidy-tidy-first-requires : goal.tidy-tidy-first-requires
tidy-tidy-first-requires t c =
    let a = c.args in
    let h = c.in-Some.h in
    let F = c.in-Some.ensures in
    let r = first_place_lem a.at h.len (length a.src.now) a.put (length a.out.now) h.subterms t c.requires.0 c.requires.1
    F.inside F.room F.step c.if-subterms-eq0.false c.decreases in
    (r.0, (r.1, rw c.copy_front.auto.out r.2))

-- src/tidy.rt:106:9
pub tidy-returns-then-subterms-eq1 : goal.tidy-returns-then-subterms-eq1
tidy-returns-then-subterms-eq1 t c =
    let a = c.args in
    let h = c.in-Some.h in
    let F = c.in-Some.ensures in
    let R = c.tidy-first.ensures in
    record {
      on = omega (arith, R.on);
      inside = omega (arith, R.inside, F.inside);
      room = omega (
        arith,
        R.room,
        F.room,
        c.copy_front.auto.out,
      );
      is = tidied_one a.src.now a.at a.arities.now a.out.now a.put h _ F (stays a.src.now
          a.at a.arities.now (subst (BindsNothing a.src.now a.at a.arities.now) c.if-binds_nothing.false c.binds_nothing.ensures.is))
          c.tidy-first.result _ R.is c.if-subterms-eq1.true;
    }

-- src/tidy.rt:110:5
pub tidy-tidy-requires : goal.tidy-tidy-requires
tidy-tidy-requires t c =
    let a = c.args in
    let h = c.in-Some.h in
    let F = c.in-Some.ensures in
    let R = c.tidy-first.ensures in
    let k = c.copy_front.auto.out in
    let r = second_place_lem a.at h.len c.tidy-first.result.read (length a.src.now) a.put c.tidy-first.result.written (length a.out.now)
    h.subterms t c.requires.0 c.requires.1 F.inside F.room F.step c.if-subterms-eq0.false R.on R.inside (rw (← k) R.room)
    c.decreases in
    (r.0, (r.1, omega (arith, r.2, k, c.tidy-first.auto.out)))

-- src/tidy.rt:88:1
pub tidy-returns : goal.tidy-returns
tidy-returns t c =
    let a = c.args in
    let h = c.in-Some.h in
    let F = c.in-Some.ensures in
    let R = c.tidy-first.ensures in
    let S = c.tidy.ensures in
    record {
      on = omega (arith, R.on, S.on);
      inside = omega (arith, R.on, R.inside, S.inside, F.inside);
      room = omega (
        arith,
        R.room,
        S.room,
        F.room,
        c.copy_front.auto.out,
        c.tidy-first.auto.out,
      );
      is = tidied_two a.src.now a.at a.arities.now a.out.now
          a.put h _ F (stays a.src.now a.at a.arities.now (subst (BindsNothing a.src.now a.at a.arities.now) c.if-binds_nothing.false
          c.binds_nothing.ensures.is)) c.tidy-first.result _ R.is c.if-subterms-eq0.false c.if-subterms-eq1.false c.tidy.result _ S.is;
    }

-- src/tidy.rt:69:9
pub tidy_unrestricted-returns-then-not-room : goal.tidy_unrestricted-returns-then-not-room
unfolding agrees outside_byte
tidy_unrestricted-returns-then-not-room t c =
    let a = c.args in
    let R = c.rename-n.ensures in
    let s = leb-false (a.at + c.rename-n.result) (length a.src.now) (sym c.room.ensures ∙ c.if-not-room.true) in
    record {
      on = omega arith;
      inside = omega arith;
      room = omega arith;
      is = beneath-inside a.src.now a.at a.arities.now a.out.now
          a.put _ _ c.rename-n.result _ refl refl refl R c.requires.0 s _ _;
    }

-- src/tidy.rt:75:9
pub tidy_unrestricted-returns-then-n-gt-LONGEST_RAW : goal.tidy_unrestricted-returns-then-n-gt-LONGEST_RAW
unfolding agrees outside_byte
tidy_unrestricted-returns-then-n-gt-LONGEST_RAW t c =
    let a = c.args in
    let R = c.rename-n.ensures in
    record {
      on = omega arith;
      inside = omega arith;
      room = omega arith;
      is = beneath-fits a.src.now a.at a.arities.now a.out.now
          a.put _ _ c.rename-n.result _ refl refl refl R c.if-n-gt-LONGEST_RAW.true _ _;
    }

-- src/tidy.rt:80:18
pub tidy_unrestricted-slice_bounds-tidy-end : goal.tidy_unrestricted-slice_bounds-tidy-end
tidy_unrestricted-slice_bounds-tidy-end t c =
    let a = c.args in
    let l = c.rename-n.new.out in
    let k : c.rename-n.result ≡ length (take c.rename-n.result l) = taken c.rename-n.result l (omega (
      arith,
      c.rename-n.auto.out,
      c.if-n-gt-LONGEST_RAW.false,
    )) in
    k

-- src/tidy.rt:80:9
pub tidy_unrestricted-tidy-e-requires : goal.tidy_unrestricted-tidy-e-requires
tidy_unrestricted-tidy-e-requires t c =
    let a = c.args in
    let l = c.rename-n.new.out in
    let k : c.rename-n.result ≡ length (take c.rename-n.result l) = taken c.rename-n.result l (omega (
      arith,
      c.rename-n.auto.out,
      c.if-n-gt-LONGEST_RAW.false,
    )) in
    let s = leb-true (a.at + c.rename-n.result) (length a.src.now) (sym c.room.ensures ∙ c.if-not-room.false) in (
      lowered_place a.at c.rename-n.result (length (take c.rename-n.result l)) (length a.src.now) t k s c.decreases,
      (
        omega arith,
        c.requires.1,
      ),
    )

-- src/tidy.rt:82:15
pub tidy_unrestricted-overflow_add-result : goal.tidy_unrestricted-overflow_add-result
tidy_unrestricted-overflow_add-result t c =
    let a = c.args in
    let s = leb-true (a.at + c.rename-n.result) (length a.src.now) (sym c.room.ensures ∙ c.if-not-room.false) in
    omega (arith, s, c.well_formed)

-- src/tidy.rt:62:1
pub tidy_unrestricted-returns : goal.tidy_unrestricted-returns
unfolding agrees outside_byte
tidy_unrestricted-returns t c =
    let a = c.args in
    let R = c.rename-n.ensures in
    let s = leb-true (a.at + c.rename-n.result) (length a.src.now) (sym c.room.ensures ∙ c.if-not-room.false) in
    record {
      on = omega arith;
      inside = omega arith;
      room = c.tidy-e.ensures.room;
      is = beneath-tidied a.src.now a.at a.arities.now
          a.out.now a.put _ _ c.rename-n.result _ refl refl refl R c.tidy-e.result _ c.tidy-e.ensures.is;
    }
