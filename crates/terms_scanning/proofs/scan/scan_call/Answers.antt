use mathlib.Core.Path.{sym, ap, ◌∙◌}
use native.Mathlib.Omega.{arith}
use lib.ListN.{get_or}
use Rattle.terms_bytes.proofs.CountedLaws.{is_two, is_one}
use Rattle.terms_bytes.specs.Counted.{edition_from}
use Rattle.terms_scanning.proofs.ScanLaws.{call_short, call_unknown, count_missing, count_wrong, counted-names, call-names}
use Rattle.terms_scanning.proofs.scan.scan_call.Goals as goal

pub returns-then-src-at : goal.returns-then-src-at
returns-then-src-at c =
    let a = c.args in
    call_short (edition_from a.counted) a.free a.arities.now a.depth a.src.now a.at c.if-src-at.true

-- src/scan.rt:82:9
pub returns-then-arities-k : goal.returns-then-arities-k
returns-then-arities-k c =
    let a = c.args in
    call_unknown (edition_from a.counted) a.free a.arities.now a.depth a.src.now a.at (omega arith) (rw c.get-k.ensures
    at c.if-arities-k.true)

-- src/scan.rt:87:13
pub returns-then-src-at-2 : goal.returns-then-src-at-2
returns-then-src-at-2 c =
    let a = c.args in
    rw (is_two a.counted c.if-counted.true) (count_missing a.free a.arities.now a.depth a.src.now a.at (omega arith)
    c.get-names.result (rw c.get-k.ensures at c.if-arities-k.false) (c.get-names.ensures ∙ ap (λ n. get_or a.arities.now n 0) c.get-k.ensures)
    c.if-src-at-2.true)

-- src/scan.rt:90:13
pub returns-then-get-names : goal.returns-then-get-names
returns-then-get-names c =
    let a = c.args in
    rw (is_two a.counted c.if-counted.true) (count_wrong a.free a.arities.now a.depth a.src.now a.at (omega arith)
    c.get-names.result (rw c.get-k.ensures at c.if-arities-k.false) (c.get-names.ensures ∙ ap (λ n. get_or a.arities.now n 0) c.get-k.ensures) (omega
    arith) (λ e. c.if-get-names.true (c.get.ensures ∙ e)))

-- src/scan.rt:92:9
pub returns-then-counted : goal.returns-then-counted
returns-then-counted c =
    let a = c.args in
    rw (is_two a.counted c.if-counted.true) (counted-names a.free a.arities.now a.depth a.src.now a.at (omega arith)
    c.get-names.result (rw c.get-k.ensures at c.if-arities-k.false) (c.get-names.ensures ∙ ap (λ n. get_or a.arities.now n 0) c.get-k.ensures) (omega
    arith) c.scan_names.result (sym c.get.ensures ∙ c.if-get-names.false) c.scan_names.ensures)

-- src/scan.rt:67:1
pub returns : goal.returns
returns c =
    let a = c.args in
    rw (is_one a.counted c.if-counted.false) (call-names a.free a.arities.now a.depth a.src.now a.at (omega arith)
    c.get-names.result (rw c.get-k.ensures at c.if-arities-k.false) (c.get-names.ensures ∙ ap (λ n. get_or a.arities.now n 0) c.get-k.ensures)
    c.scan_names-2.result c.scan_names-2.ensures)
