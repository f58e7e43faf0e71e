use Prim.Native.Nat.{◌+◌}
use Rattle.steps_equal_branches.proofs.SameLaws.{lengths_fit, same_not, same_none, same_one, same_two}
use native.Mathlib.Omega.{arith}
use lib.ListN.{length}
use Rattle.steps_equal_branches.proofs.same.+same_term.Goals as goal

pub returns-then-src-at-clause-is : goal.returns-then-src-at-clause-is
returns-then-src-at-clause-is t c =
    let a = c.args in
    same_not a.src.now a.p a.at a.arities.now a.args.now a.inner a.depth

pub same_front-requires : goal.same_front-requires
same_front-requires t c =
    let a = c.args in
    let h = c.shape_at-h.result in
    let is = c.shape_at-h.ensures in
    (c.requires.0, is.few, c.requires.1, omega (arith, c.requires.2))

pub returns-then-not-same_front-clause-is : goal.returns-then-not-same_front-clause-is
returns-then-not-same_front-clause-is t c =
    let a = c.args in
    same_not a.src.now a.p a.at a.arities.now a.args.now a.inner a.depth

pub overflow_add-n : goal.overflow_add-n
overflow_add-n t c =
    let a = c.args in
    let h = c.shape_at-h.result in
    let is = c.shape_at-h.ensures in
    let w = is.few in
    omega arith

pub returns-then-subterms-eq0-clause-is : goal.returns-then-subterms-eq0-clause-is
returns-then-subterms-eq0-clause-is t c =
    let a = c.args in
    let h = c.shape_at-h.result in
    let is = c.shape_at-h.ensures in
    let F = c.same_front.ensures (c.if-not-same_front.false) in
    same_none a.src.now a.p a.at a.arities.now a.args.now a.inner a.depth c.requires.0 h is F c.if-subterms-eq0.true

pub overflow_add-i : goal.overflow_add-i
overflow_add-i t c =
    let a = c.args in
    let h = c.shape_at-h.result in
    let is = c.shape_at-h.ensures in
    let o = is.one in
    let s = is.some in
    let w = c.requires.1 in
    let v = c.requires.2 in
    omega arith

pub overflow_add-d : goal.overflow_add-d
overflow_add-d t c =
    let a = c.args in
    let h = c.shape_at-h.result in
    let is = c.shape_at-h.ensures in
    let o = is.one in
    let s = is.some in
    let w = c.requires.1 in
    let v = c.requires.2 in
    omega arith

pub overflow_add-p : goal.overflow_add-p
overflow_add-p t c =
    let a = c.args in
    let h = c.shape_at-h.result in
    let is = c.shape_at-h.ensures in
    let F = c.same_front.ensures (c.if-not-same_front.false) in
    let i = F.inside in
    let b = c.requires.0 in
    omega arith

pub overflow_add-at : goal.overflow_add-at
overflow_add-at t c =
    let a = c.args in
    let h = c.shape_at-h.result in
    let is = c.shape_at-h.ensures in
    let F = c.same_front.ensures (c.if-not-same_front.false) in
    let i = F.inside in
    omega arith

pub same_term-requires : goal.same_term-requires
same_term-requires t c =
    let a = c.args in
    let h = c.shape_at-h.result in
    let is = c.shape_at-h.ensures in
    let F = c.same_front.ensures (c.if-not-same_front.false) in
    let i = F.inside in
    let o = is.one in
    let s = is.some in
    let w = c.requires.1 in
    let v = c.requires.2 in
    let b = c.requires.0 in
    let m = c.decreases in
    let l = c.if-src-at.false in
    (omega arith, (omega arith, omega arith, omega arith))

pub returns-in_err-e-clause-is : goal.returns-in_err-e-clause-is
returns-in_err-e-clause-is t c =
    let a = c.args in
    rw c.from_residual.ensures (same_not a.src.now a.p a.at a.arities.now a.args.now a.inner a.depth)

pub overflow_add-m : goal.overflow_add-m
overflow_add-m t c =
    let a = c.args in
    let h = c.shape_at-h.result in
    let is = c.shape_at-h.ensures in
    let F = c.same_front.ensures (c.if-not-same_front.false) in
    let i = F.inside in
    let S = c.in_ok-e.ensures.is in
    let j = S.inside in
    let e = c.in_ok-e.e in
    let ne = c.in_ok-e.ensures.some in
    omega arith

pub returns-then-subterms-eq1-clause-is : goal.returns-then-subterms-eq1-clause-is
returns-then-subterms-eq1-clause-is t c =
    let a = c.args in
    let h = c.shape_at-h.result in
    let is = c.shape_at-h.ensures in
    let F = c.same_front.ensures (c.if-not-same_front.false) in
    let S = c.in_ok-e.ensures.is in
    let j = S.inside in
    let e = c.in_ok-e.e in
    let ne = c.in_ok-e.ensures.some in
    same_one a.src.now a.p a.at a.arities.now a.args.now a.inner a.depth c.requires.0 h is F e (omega arith) S c.if-subterms-eq1.true

pub overflow_add-p-2 : goal.overflow_add-p-2
overflow_add-p-2 t c =
    let a = c.args in
    let h = c.shape_at-h.result in
    let is = c.shape_at-h.ensures in
    let F = c.same_front.ensures (c.if-not-same_front.false) in
    let i = F.inside in
    let S = c.in_ok-e.ensures.is in
    let j = S.inside in
    let e = c.in_ok-e.e in
    let ne = c.in_ok-e.ensures.some in
    let b = c.requires.0 in
    omega arith

pub overflow_add-at-2 : goal.overflow_add-at-2
overflow_add-at-2 t c =
    let a = c.args in
    let h = c.shape_at-h.result in
    let is = c.shape_at-h.ensures in
    let F = c.same_front.ensures (c.if-not-same_front.false) in
    let i = F.inside in
    let S = c.in_ok-e.ensures.is in
    let j = S.inside in
    let e = c.in_ok-e.e in
    let ne = c.in_ok-e.ensures.some in
    omega arith

pub same_term-requires-2 : goal.same_term-requires-2
same_term-requires-2 t c =
    let a = c.args in
    let h = c.shape_at-h.result in
    let is = c.shape_at-h.ensures in
    let F = c.same_front.ensures (c.if-not-same_front.false) in
    let i = F.inside in
    let o = is.one in
    let s = is.some in
    let w = c.requires.1 in
    let v = c.requires.2 in
    let S = c.in_ok-e.ensures.is in
    let j = S.inside in
    let e = c.in_ok-e.e in
    let ne = c.in_ok-e.ensures.some in
    let b = c.requires.0 in
    let m = c.decreases in
    let l = c.if-src-at.false in
    (omega arith, (omega arith, omega arith, omega arith))

pub returns-in_err-f-clause-is : goal.returns-in_err-f-clause-is
returns-in_err-f-clause-is t c =
    let a = c.args in
    rw c.from_residual-in_err-f.ensures (same_not a.src.now a.p a.at a.arities.now a.args.now a.inner a.depth)

pub overflow_add-result : goal.overflow_add-result
overflow_add-result t c =
    let a = c.args in
    let h = c.shape_at-h.result in
    let is = c.shape_at-h.ensures in
    let F = c.same_front.ensures (c.if-not-same_front.false) in
    record {
      fits = lengths_fit a.at (h.fixed + h.names) c.in_ok-e.e c.in_ok-f.f (length a.src.now) F.inside
          c.in_ok-e.ensures.is.inside c.in_ok-f.ensures.is.inside c.well_formed.0.1;
    }

pub returns-clause-is : goal.returns-clause-is
returns-clause-is t c =
    let a = c.args in
    let h = c.shape_at-h.result in
    let is = c.shape_at-h.ensures in
    let F = c.same_front.ensures (c.if-not-same_front.false) in
    let S = c.in_ok-e.ensures.is in
    let j = S.inside in
    let e = c.in_ok-e.e in
    let ne = c.in_ok-e.ensures.some in
    let T = c.in_ok-f.ensures.is in
    let k = T.inside in
    let f = c.in_ok-f.f in
    let nf = c.in_ok-f.ensures.some in
    same_two a.src.now a.p a.at a.arities.now a.args.now a.inner a.depth c.requires.0 h is F e (omega arith) S c.if-subterms-eq0.false
    c.if-subterms-eq1.false f (omega arith) T

pub returns-then-subterms-eq0-clause-some : goal.returns-then-subterms-eq0-clause-some
returns-then-subterms-eq0-clause-some t c = let s = c.shape_at-h.ensures.some in omega arith

pub returns-then-subterms-eq1-clause-some : goal.returns-then-subterms-eq1-clause-some
returns-then-subterms-eq1-clause-some t c = let s = c.shape_at-h.ensures.some in omega arith

pub returns-clause-some : goal.returns-clause-some
returns-clause-some t c = let s = c.shape_at-h.ensures.some in omega arith
