use Rattle.std.proofs.lemmas.Result.{err_from_is_err_and}
use Rattle.terms_bytes.specs.Counted.{edition_from}
use Rattle.terms_scanning.proofs.ScanTerms.{whole_wrong, whole-more, whole_term}
use Rattle.terms_scanning.proofs.scan.scan_whole.Goals as goal

pub returns-in_err-e : goal.returns-in_err-e
returns-in_err-e c =
    let a = c.args in
    let e = err_from_is_err_and c.from_residual.result c.from_residual.ensures.1 in
    rw (e.1, e.2) (whole_wrong (edition_from a.counted) a.free a.arities.now a.depth a.src.now c.in_err-e.field-0.0 c.in_err-e.ensures)

pub returns-then-e-src : goal.returns-then-e-src
returns-then-e-src c =
    let a = c.args in
    whole-more (edition_from a.counted) a.free a.arities.now a.depth a.src.now c.in_ok-e.e c.in_ok-e.c c.in_ok-e.ensures c.if-e-src.true

pub returns : goal.returns
returns c =
    let a = c.args in
    whole_term (edition_from a.counted) a.free a.arities.now a.depth a.src.now c.in_ok-e.e c.in_ok-e.c c.in_ok-e.ensures c.if-e-src.false
