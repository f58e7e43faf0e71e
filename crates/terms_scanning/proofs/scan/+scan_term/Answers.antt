use mathlib.Core.Path.{sym, ap, ◌∙◌}
use native.Mathlib.Omega.{arith}
use Prim.Native.Nat.{◌+◌}
use lib.ListN.{length}
use Rattle.std.proofs.lemmas.Result.{err_from_is_err_and}
use Rattle.terms_bytes.specs.Counted.{edition_from}
use Rattle.terms_scanning.proofs.ScanLaws.{next_within}
use Rattle.terms_scanning.proofs.ScanTerms.{end_within, scan_wrong, scan_leaf, scan_first_wrong, scan_one, scan_second_wrong, scan_two}
use Rattle.terms_scanning.proofs.scan.+scan_term.Goals as goal

pub returns-in_err-n : goal.returns-in_err-n
returns-in_err-n t c =
    let a = c.args in
    let e = err_from_is_err_and c.from_residual.result c.from_residual.ensures.1 in
    rw (e.1, e.2) (scan_wrong (edition_from a.counted) a.free a.arities.now a.depth a.src.now a.at c.in_err-n.field-0.0 c.in_err-n.ensures)

pub shape_at-h-requires : goal.shape_at-h-requires
shape_at-h-requires t c =
    let a = c.args in
    omega (arith, next_within _ _ _ c.in_ok-n.ensures.within)

pub overflow_add-deeper : goal.overflow_add-deeper
overflow_add-deeper t c =
    let a = c.args in
    omega (arith, next_within _ _ _ c.in_ok-n.ensures.within, c.shape_at-h.ensures.one, c.requires, c.well_formed)

pub returns-then-subterms-eq0 : goal.returns-then-subterms-eq0
returns-then-subterms-eq0 t c =
    let a = c.args in
    scan_leaf (edition_from a.counted) a.free a.arities.now a.depth a.src.now a.at c.in_ok-n.n c.in_ok-n.ensures c.combine.result (sym c.shape_at-h.ensures.subterms ∙ c.if-subterms-eq0.true) (rw (c.get-t.ensures, c.passed.ensures, c.passed-then-subterms-eq0.ensures) at c.combine.ensures)

pub scan_term-requires : goal.scan_term-requires
scan_term-requires t c =
    let a = c.args in
    let p = next_within _ _ _ c.in_ok-n.ensures.within in omega (arith, p, c.shape_at-h.ensures.one, c.requires)

pub returns-in_err-e : goal.returns-in_err-e
returns-in_err-e t c =
    let a = c.args in
    let e = err_from_is_err_and c.from_residual-in_err-e.result c.from_residual-in_err-e.ensures.1 in
    rw (e.1, e.2) (scan_first_wrong (edition_from a.counted) a.free a.arities.now a.depth a.src.now a.at c.in_ok-n.n c.in_ok-n.ensures (a.depth + c.shape_at-h.result.binds) (ap (λ x. a.depth + x) c.shape_at-h.ensures.binds) (λ z. c.if-subterms-eq0.false (c.shape_at-h.ensures.subterms ∙ z)) c.in_err-e.field-0.0 c.in_err-e.ensures)

pub returns-then-subterms-eq1 : goal.returns-then-subterms-eq1
returns-then-subterms-eq1 t c =
    let a = c.args in
    scan_one (edition_from a.counted) a.free a.arities.now a.depth a.src.now a.at c.in_ok-n.n c.in_ok-n.ensures (a.depth + c.shape_at-h.result.binds) (ap (λ x. a.depth + x) c.shape_at-h.ensures.binds) (λ z. c.if-subterms-eq0.false (c.shape_at-h.ensures.subterms ∙ z)) c.in_ok-e.e c.in_ok-e.p c.in_ok-e.ensures c.combine-then-subterms-eq1.result (sym c.shape_at-h.ensures.subterms ∙ c.if-subterms-eq1.true) (rw (c.get-t.ensures, c.passed-then-subterms-eq1.ensures) at c.combine-then-subterms-eq1.ensures)

pub scan_term-requires-2 : goal.scan_term-requires-2
scan_term-requires-2 t c =
    let a = c.args in
    let p = next_within _ _ _ c.in_ok-n.ensures.within in let q = end_within _ _ _ _ c.in_ok-e.ensures.within in omega (arith, p, q, c.shape_at-h.ensures.one, c.requires)

pub returns-in_err-last : goal.returns-in_err-last
returns-in_err-last t c =
    let a = c.args in
    let e = err_from_is_err_and c.from_residual-in_err-last.result c.from_residual-in_err-last.ensures.1 in
    rw (e.1, e.2) (scan_second_wrong (edition_from a.counted) a.free a.arities.now a.depth a.src.now a.at c.in_ok-n.n c.in_ok-n.ensures (a.depth + c.shape_at-h.result.binds) (ap (λ x. a.depth + x) c.shape_at-h.ensures.binds) (λ z. c.if-subterms-eq0.false (c.shape_at-h.ensures.subterms ∙ z)) c.in_ok-e.e c.in_ok-e.p c.in_ok-e.ensures (λ z. c.if-subterms-eq1.false (c.shape_at-h.ensures.subterms ∙ z)) c.in_err-last.field-0.0 c.in_err-last.ensures)

pub returns : goal.returns
returns t c =
    let a = c.args in
    scan_two (edition_from a.counted) a.free a.arities.now a.depth a.src.now a.at c.in_ok-n.n c.in_ok-n.ensures (a.depth + c.shape_at-h.result.binds) (ap (λ x. a.depth + x) c.shape_at-h.ensures.binds) (λ z. c.if-subterms-eq0.false (c.shape_at-h.ensures.subterms ∙ z)) c.in_ok-e.e c.in_ok-e.p c.in_ok-e.ensures (λ z. c.if-subterms-eq1.false (c.shape_at-h.ensures.subterms ∙ z)) c.in_ok-last.last c.in_ok-last.q c.combine-2.result c.in_ok-last.ensures (rw c.get-t.ensures at c.combine-2.ensures)
