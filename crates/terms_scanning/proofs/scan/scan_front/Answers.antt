use mathlib.Core.Path.{sym, ◌∙◌}
use native.Mathlib.Omega.{arith}
use Rattle.terms_bytes.specs.Counted.{edition_from}
use Rattle.terms_scanning.proofs.ScanLaws.{front_short, front_unknown, front-call, front-names}
use Rattle.terms_scanning.proofs.scan.scan_front.Goals as goal

pub returns-then-src-at : goal.returns-then-src-at
returns-then-src-at c =
    let a = c.args in
    front_short (edition_from a.counted) a.free a.arities.now a.depth a.src.now a.at c.if-src-at.true

-- src/scan.rt:113:9
pub returns-then-t-gt-CALL : goal.returns-then-t-gt-CALL
returns-then-t-gt-CALL c =
    let a = c.args in
    front_unknown (edition_from a.counted) a.free a.arities.now a.depth a.src.now a.at (omega arith) (rw c.get-t.ensures
    at c.if-t-gt-CALL.true)

-- src/scan.rt:116:9
pub returns-then-t-eq-CALL : goal.returns-then-t-eq-CALL
returns-then-t-eq-CALL c =
    let a = c.args in
    front-call (edition_from a.counted) a.free a.arities.now a.depth a.src.now a.at (omega arith) c.scan_call.result (sym
    c.get-t.ensures ∙ c.if-t-eq-CALL.true) c.scan_call.ensures

-- src/scan.rt:98:1
pub returns : goal.returns
returns c =
    let a = c.args in
    front-names (edition_from a.counted) a.free a.arities.now a.depth a.src.now a.at (omega arith) c.shape_at-h.result.names
    c.scan_names.result (rw c.get-t.ensures at c.if-t-gt-CALL.false) (λ e. c.if-t-eq-CALL.false (c.get-t.ensures ∙ e))
    c.shape_at-h.ensures.names c.scan_names.ensures
