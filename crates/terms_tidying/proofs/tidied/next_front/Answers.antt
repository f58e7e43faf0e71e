use mathlib.Core.Path.{refl, sym, ◌∙◌}
use native.Mathlib.Omega.{arith}
use Rattle.terms_bytes.specs.Shape.{binders_at, subterms_at}
use Rattle.terms_tidying.proofs.TidiedWalk.{front_plain, front_one, front-last, no_term}
use Rattle.terms_tidying.proofs.tidied.next_front.Goals as goal

-- src/tidied.rt:85:9
pub returns-then-t-eq-INACTION : goal.returns-then-t-eq-INACTION
unfolding binders_at subterms_at
returns-then-t-eq-INACTION c =
    let a = c.args in
    front_plain a.src.now a.at a.arities.now a.depth a.waits.now c.front.result c.requires.0 0 (sym
    c.get-t.ensures ∙ c.if-t-eq-INACTION.true) (λ z. omega arith) refl c.front.ensures

-- src/tidied.rt:88:9
pub returns-then-t-eq-SILENT : goal.returns-then-t-eq-SILENT
unfolding binders_at subterms_at
returns-then-t-eq-SILENT c =
    let a = c.args in
    front_plain a.src.now a.at a.arities.now a.depth a.waits.now c.front-then-t-eq-SILENT.result c.requires.0 1 (sym c.get-t.ensures ∙
    c.if-t-eq-SILENT.true) (λ z. omega arith) refl c.front-then-t-eq-SILENT.ensures

-- src/tidied.rt:91:9
pub returns-then-t-eq-CHOICE : goal.returns-then-t-eq-CHOICE
unfolding binders_at subterms_at
returns-then-t-eq-CHOICE c =
    let a = c.args in
    front_plain a.src.now a.at a.arities.now a.depth a.waits.now c.front-then-t-eq-CHOICE.result c.requires.0 6 (sym c.get-t.ensures ∙
    c.if-t-eq-CHOICE.true) (λ z. omega arith) refl c.front-then-t-eq-CHOICE.ensures

-- src/tidied.rt:94:9
pub returns-then-t-eq-PARALLEL : goal.returns-then-t-eq-PARALLEL
unfolding binders_at subterms_at
returns-then-t-eq-PARALLEL c =
    let a = c.args in
    front_plain a.src.now a.at a.arities.now a.depth a.waits.now c.front-then-t-eq-PARALLEL.result c.requires.0 7 (sym c.get-t.ensures ∙
    c.if-t-eq-PARALLEL.true) (λ z. omega arith) refl c.front-then-t-eq-PARALLEL.ensures

-- src/tidied.rt:97:9
pub returns-then-t-eq-RESTRICTION : goal.returns-then-t-eq-RESTRICTION
unfolding binders_at subterms_at
returns-then-t-eq-RESTRICTION c =
    let a = c.args in
    front_plain a.src.now a.at a.arities.now a.depth a.waits.now c.front-then-t-eq-RESTRICTION.result c.requires.0 8 (sym c.get-t.ensures ∙
    c.if-t-eq-RESTRICTION.true) (λ z. omega arith) refl c.front-then-t-eq-RESTRICTION.ensures

-- src/tidied.rt:103:9
pub returns-then-t-gt-CALL : goal.returns-then-t-gt-CALL
returns-then-t-gt-CALL c =
    let a = c.args in
    no_term a.src.now a.at a.arities.now (omega (arith, c.get-t.ensures, c.if-t-gt-CALL.true))

-- src/tidied.rt:107:9
pub returns-then-t-eq-INPUT : goal.returns-then-t-eq-INPUT
unfolding binders_at subterms_at
returns-then-t-eq-INPUT c =
    let a = c.args in
    front_one a.src.now a.at a.arities.now a.depth a.waits.now _ c.front-then-t-eq-INPUT.result c.requires.0 2 (sym c.get-t.ensures ∙
    c.if-t-eq-INPUT.true) (λ z. omega arith) refl c.front-then-t-eq-INPUT.ensures c.get.result c.get.ensures c.use_name.ensures

-- src/tidied.rt:110:9
pub returns-then-t-eq-NEW_OUTPUT : goal.returns-then-t-eq-NEW_OUTPUT
unfolding binders_at subterms_at
returns-then-t-eq-NEW_OUTPUT c =
    let a = c.args in
    front_one a.src.now a.at a.arities.now a.depth a.waits.now _ c.front-then-t-eq-NEW_OUTPUT.result c.requires.0 4 (sym c.get-t.ensures ∙
    c.if-t-eq-NEW_OUTPUT.true) (λ z. omega arith) refl c.front-then-t-eq-NEW_OUTPUT.ensures c.get.result c.get.ensures c.use_name.ensures

-- src/tidied.rt:79:1
pub returns : goal.returns
returns c =
    let a = c.args in
    front-last a.src.now a.at a.arities.now a.depth a.waits.now _ c.front-2.result c.requires.0 c.get.result
    c.get-2.result c.get.ensures c.get-2.ensures _ c.use_name.ensures c.use_name-2.ensures c.get-t.result (sym
    c.get-t.ensures) c.if-t-eq-INACTION.false c.if-t-eq-SILENT.false c.if-t-eq-INPUT.false c.if-t-eq-NEW_OUTPUT.false c.if-t-eq-CHOICE.false c.if-t-eq-PARALLEL.false c.if-t-eq-RESTRICTION.false
    c.if-t-eq-CALL.false c.if-t-gt-CALL.false c.front-2.ensures
