use mathlib.Core.Path.{refl, sym, ap, ◌∙◌}
use mathlib.Core.List.{[], ◌∷◌}
use Prim.Native.Nat.{ℕ}
use native.Mathlib.Omega.{arith}
use lib.ListN.{get_or}
use borrow.Author.Tests.{ne_eqb}
use borrow.Author.Rules.{rules}
use Rattle.terms_bytes.specs.Shape.{fixed_at, names_at, binders_at, subterms_at}
use Rattle.terms_bytes.proofs.Shapes.{all-at}
use Rattle.terms_bytes.proofs.shape.shape_at.Goals as goal

pub returns-then-t-eq-CALL : goal.returns-then-t-eq-CALL
unfolding fixed_at names_at binders_at subterms_at
returns-then-t-eq-CALL c =
    let e = sym c.get-t.ensures ∙ c.if-t-eq-CALL.true in record {
      fixed = rw e;
      names = rw e (c.get-n.ensures ∙
          ap (λ (k : ℕ). get_or c.args.arities.now k 0) c.get-k.ensures);
      binds = rw e;
      subterms
          = rw e;
      some = search rules;
      few = omega (arith, c.get-n.type_inv);
      one = search rules;
    }

pub returns : goal.returns
unfolding fixed_at names_at binders_at subterms_at
returns c =
    let e = c.get-t.ensures in
    let f = ne_eqb _ 9 c.if-t-eq-CALL.false in
    record {
      fixed = rw (← e, f);
      names = rw (← e, f) c.names_of.ensures;
      binds = rw (← e) c.binders_of.ensures;
      subterms = rw (← e) c.subterm_count.ensures;
      some = search rules;
      few = omega (
        arith,
        all-at 2 (0 ∷ 0 ∷ 1 ∷ 2 ∷ 1 ∷ 2 ∷ 0 ∷ 0 ∷ 0 ∷ [])
            c.get-t.result refl,
        c.names_of.ensures,
      );
      one = omega (
        arith,
        all-at 1 (0 ∷ 0 ∷ 1 ∷ 0 ∷
            1 ∷ 0 ∷ 0 ∷ 0 ∷ 1 ∷ []) c.get-t.result refl,
        c.binders_of.ensures,
      );
    }
