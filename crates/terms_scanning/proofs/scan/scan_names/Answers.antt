use mathlib.Core.Path.{◌≡◌, refl, sym, subst, ◌∙◌}
use Prim.Native.Nat.{ℕ, ◌+◌, ◌-◌}
use Rattle.std.specs.Prelude.{Ok}
use Rattle.terms_scanning.specs.Scanning.{NamesIs}
use native.Mathlib.Omega.{arith}
use Rattle.terms_scanning.proofs.ScanLaws.{names-step, names_out_short, names_out_wrong, names-out}
use Rattle.terms_scanning.proofs.scan.scan_names.Goals as goal

pub loop-i-init : goal.loop-i-init
loop-i-init c =
    let a = c.args in
    let n : a.count - 0 ≡ a.count = omega arith in
    let p : a.from + 0 ≡ a.from = omega arith in
    (omega arith, omega arith, rw (n, p) refl)

pub returns-then-src-from : goal.returns-then-src-from
returns-then-src-from c =
    let a = c.args in
    names_out_short a.free a.depth a.src.now a.count a.from (a.count - c.loop-i.i) (a.from + c.loop-i.i) c.loop-i.invariant.2 (omega arith)
    c.if-src-from.true

pub returns-then-not-is_name : goal.returns-then-not-is_name
returns-then-not-is_name c =
    let a = c.args in
    names_out_wrong a.free a.depth a.src.now a.count a.from (a.count - c.loop-i.i) (a.from + c.loop-i.i) c.loop-i.invariant.2 (omega arith) (omega
    arith) (sym c.is_name.ensures ∙ c.if-not-is_name.true)

pub loop-i-preserved : goal.loop-i-preserved
loop-i-preserved c =
    let a = c.args in
    let n : a.count - (c.loop-i.i + 1) ≡ a.count - c.loop-i.i - 1 = omega arith in
    let p : a.from + (c.loop-i.i + 1) ≡ a.from + c.loop-i.i + 1 = omega arith in (
      omega arith,
      omega arith,
      c.loop-i.invariant.2 ∙ names-step a.free a.depth a.src.now (a.count - c.loop-i.i) (a.from + c.loop-i.i) (omega arith) (omega
          arith) (sym c.is_name.ensures ∙ c.if-not-is_name.false) ∙ rw (n, p) refl,
    )

pub returns : goal.returns
returns c =
    let a = c.args in
    let p : c.loop-i.i ≡ a.count = omega (arith, c.loop-i.invariant.0) in
    subst (λ (x : ℕ). NamesIs a.free a.depth a.count a.src.now a.from (Ok (a.from + x))) p (names-out a.free a.depth a.src.now a.count a.from (a.count - c.loop-i.i) (a.from + c.loop-i.i) c.loop-i.invariant.2 (omega arith)
    (omega arith) c.loop-i.invariant.1)
