use native.Mathlib.Omega.{arith}
use Rattle.terms_renaming.proofs.RenamingWalk.{renamed_nowhere, renamed-none, renamed_one, renamed_two}
use Rattle.terms_renaming.proofs.rename.+rename_beneath.Goals as goal

pub returns-in_default : goal.returns-in_default
returns-in_default t c =
    let a = c.args in
    record {
      on = omega arith;
      inside = omega arith;
      is = renamed_nowhere a.src.now a.at a.arities.now a.inner a.table.now a.out.now a.put a.at _ c.in_default.ensures;
    }

pub returns-then-subterms-eq0 : goal.returns-then-subterms-eq0
returns-then-subterms-eq0 t c =
    let a = c.args in
    let F = c.in-Some.ensures in
    record {
      on = omega arith;
      inside = F.inside;
      is = renamed-none a.src.now a.at a.arities.now a.inner a.table.now a.out.now
          a.put c.in-Some.h _ F c.if-subterms-eq0.true;
    }

pub returns-then-subterms-eq1 : goal.returns-then-subterms-eq1
returns-then-subterms-eq1 t c =
    let a = c.args in
    let F = c.in-Some.ensures in
    let R = c.rename_beneath-e.ensures in
    record {
      on = omega (arith, R.on);
      inside = omega (arith, R.inside, F.inside);
      is = renamed_one a.src.now a.at a.arities.now
          a.inner a.table.now a.out.now a.put c.in-Some.h _ F c.rename_beneath-e.result _ R.is c.if-subterms-eq1.true;
    }

pub returns : goal.returns
returns t c =
    let a = c.args in
    let F = c.in-Some.ensures in
    let R = c.rename_beneath-e.ensures in
    let S = c.rename_beneath.ensures in
    record {
      on = omega (arith, R.on, S.on);
      inside = omega (arith, R.on, R.inside, S.inside, F.inside);
      is = renamed_two a.src.now a.at
          a.arities.now a.inner a.table.now a.out.now a.put c.in-Some.h _ F c.rename_beneath-e.result _ R.is
          c.if-subterms-eq0.false c.if-subterms-eq1.false c.rename_beneath.result _ S.is;
    }
