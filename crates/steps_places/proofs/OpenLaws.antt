-- The body of a place, opened: what it goes on to. Assumes nothing.
use mathlib.Core.List.{List, [], ◌∷◌, ◌++◌, append_assoc, append-nil}
use mathlib.Core.Logic.{inl, inr}
use mathlib.Core.Path.{◌≡◌, refl, sym, ap, subst, ◌∙◌}
use native.Mathlib.Nat.{not-suc-le-zero}
use native.Mathlib.Omega.{arith}
use Prim.Native.Nat.{ℕ, zero, suc, ◌+◌, ◌-◌, ◌*◌, ◌<◌, ◌≤◌}
use lib.ListN.{length, get_or}
use Rattle.calculus.specs.Cond.{Cond, Name}
use Rattle.calculus.specs.Definitions.{Defs, opened}
use Rattle.calculus.specs.Free.{In}
use Rattle.calculus.specs.Term.{Term, nil, tau, inp, out, bout, mat, sum, par, res, call, ren}
use Rattle.calculus.proofs.WorkingNames.{opened_free}
use Rattle.calls.specs.Reach.{Bare, b_call, b_mat, b_sum_l, b_sum_r, Reached, here, through}
use Rattle.calls.proofs.ReachEnds.{bare_free}
use Rattle.terms.specs.Encoding.{InScope}
use Rattle.terms.specs.Limits.{most_definitions, longest_term}
use Rattle.terms.specs.Question.{Question}
use Rattle.terms.proofs.WellFormed.{accepted_well_formed}
use Rattle.terms_bytes.proofs.Stores.{get_d_reverse}
use Rattle.steps_partitions.specs.Partition.{Partition}
use Rattle.steps_tallies.specs.Bodies.{BodyIs}
use Rattle.steps_tallies.proofs.CallLaws.{body-size}
use Rattle.steps_reach.specs.CallTable.{most_calls, RowIs}
use Rattle.steps_reach.proofs.CallWalks.{body_in_scope, body_bytes}
use Rattle.steps_reach.proofs.Rows.{call-row}
use Rattle.steps_places.specs.PlaceTable.{slot_of, along}
use Rattle.steps_places.specs.PlaceWalks.{FirstNames, Standing, FindTermIs, Scene, Reachable, OpenPlaceIs}
use Rattle.steps_places.proofs.Meanings.{slot_within, means_along}

-- What is reached is gone on from.
pub reached_on : (Δ : Defs) {k l m : ℕ} {xs ys zs : List ℕ} {D C : Cond} → Reached Δ k xs D l ys → length ys ≡ Δ.arity l
    → Bare (opened ys (Δ.body l)) C m zs → Reached Δ k xs (D ++ C) m zs
reached_on Δ {k = k} {m = m} {xs = xs} {zs = zs} {C = C} here n b = subst (λ E. Reached Δ k xs E m zs) (append-nil C) (through n b here)
reached_on Δ {k = k} {m = m} {xs = xs} {zs = zs} {C = C} (through {C = A} {D = B} e h r) n b =
    subst (λ E. Reached Δ k xs E m zs) (sym (append_assoc A B C)) (through e h (reached_on Δ r n b))

-- An unprefixed call has a definition.
bare_there : (arities : List ℕ) (D : ℕ) (σ : ℕ → ℕ) (P : Term) → InScope 0 arities D P → (C : Cond) (l : ℕ) (zs : List ℕ) → Bare (ren σ P) C l zs → l < length arities
unfolding InScope
bare_there arities D σ nil s C l zs b = elim b [ ]
bare_there arities D σ (tau P) s C l zs b = elim b [ ]
bare_there arities D σ (inp a P) s C l zs b = elim b [ ]
bare_there arities D σ (out a x P) s C l zs b = elim b [ ]
bare_there arities D σ (bout a P) s C l zs b = elim b [ ]
bare_there arities D σ (mat a x P) s C l zs (b_mat h) = bare_there arities D σ P s.2 _ l zs h
bare_there arities D σ (sum P Q) s C l zs (b_sum_l h) = bare_there arities D σ P s.0 C l zs h
bare_there arities D σ (sum P Q) s C l zs (b_sum_r h) = bare_there arities D σ Q s.1 C l zs h
bare_there arities D σ (par P Q) s C l zs b = elim b [ ]
bare_there arities D σ (res P) s C l zs b = elim b [ ]
bare_there arities D σ (call k ns) s C l zs b_call = s.0

in_list : (ys : List ℕ) (i : ℕ) → i < length ys → In (get_or ys i 0) ys
in_list [] i l = absurd (not-suc-le-zero l)
in_list (y ∷ ys) zero l = inl refl
in_list (y ∷ ys) (suc i) l = inr (in_list ys i (omega arith))

module _ (question : List ℕ) (q : Question) (Δ : Defs) (k : ℕ) (xs t : List ℕ) (count : ℕ) (S : Scene question q Δ k xs t count) where
  -- A call that is reached has a row.
  pub reached-row : (C : Cond) (l : ℕ) (ys : List ℕ) → Reached Δ k xs C l ys → (i : ℕ) × (i < most_calls) × RowIs t i (l, ys)
  reached-row C l ys r =
      let (i, h, R) = call-row t S.reaches.list (l, ys) (S.reaches.all C l ys r) S.reaches.table in
      (i, omega (arith, h, S.reaches.size, S.few), R)

  pub reached-sized : (C : Cond) (l : ℕ) (ys : List ℕ) → Reached Δ k xs C l ys → length ys ≡ Δ.arity l
  reached-sized C l ys r = S.reaches.sized (l, ys) (S.reaches.all C l ys r)

  pub first-names : FirstNames t count xs
  unfolding FirstNames
  first-names = (S.names, λ j h. let e : 1 + j ≡ 9 * 0 + 1 + j = omega arith in ap (λ i. get_or t i 0) e ∙ S.reaches.first.names j (omega (arith, S.names)))

  module _ (v : List ℕ) (j : ℕ) (R : Reachable q Δ k xs t v j) where
    own_arity : length R.names ≡ get_or q.arities R.definition 0
    own_arity = R.sized ∙ S.defines.arity R.definition

    few_definitions : R.definition < most_definitions
    few_definitions = omega (arith, R.there, (accepted_well_formed question q S.defines.accepted).definitions)

    -- Its body stands where the code finds it.
    body_stands : (n : ℕ) → n ≡ get_or t (9 * j) 0 → (body : List ℕ) → BodyIs question n body
        → Standing q body 0 j t count xs R.names (Δ.body R.definition)
    body_stands n e body B = record {
      scope = body_in_scope question q Δ S.defines R.definition R.names own_arity;
      rest = [];
      bytes = body_bytes question q Δ S.defines R.definition R.names own_arity R.there body
          (subst (λ i. BodyIs question i body) (e ∙ R.row.definition) B);
      definition = R.definition;
      arity = own_arity;
      called = R.row;
      first = first-names;
      within = λ i l. subst (λ x. slot_of xs x < count) (sym (get_d_reverse R.names i l))
          (subst (λ x. slot_of xs (get_or R.names (length R.names - 1 - i) 0) < x) S.names
          (slot_within xs _ (R.within _ (in_list R.names (length R.names - 1 - i) (omega arith)))));
      listed = λ C l zs b. reached-row (R.condition ++ C) l zs (reached_on Δ R.reached R.sized b);
    }

    -- The matches on the way are of the first call's names.
    pub match_within : (C : Cond) (l : ℕ) (zs : List ℕ) → Bare (opened R.names (Δ.body R.definition)) C l zs → (x : ℕ) → Name x C → slot_of xs x < count
    match_within C l zs b x m = subst (λ y. slot_of xs x < y) S.names
        (slot_within xs x (R.within x (opened_free Δ R.definition R.names R.sized x (bare_free b x (inl m)))))

    -- A call that it goes on to is reached.
    pub goes_on : Partition count v → (C : Cond) (l : ℕ) (zs : List ℕ) → Bare (opened R.names (Δ.body R.definition)) C l zs → (i : ℕ) → RowIs t i (l, zs)
        → Reachable q Δ k xs t (along xs v C) i
    goes_on p C l zs b i row = record {
      definition = l;
      there = bare_there q.arities (length R.names) _ (Δ.body R.definition)
          (body_in_scope question q Δ S.defines R.definition R.names own_arity) C l zs b;
      names = zs;
      within = λ x m. R.within x (opened_free Δ R.definition R.names R.sized x (bare_free b x (inr m)));
      row = row;
      sized = reached-sized (R.condition ++ C) l zs (reached_on Δ R.reached R.sized b);
      condition = R.condition ++ C;
      reached = reached_on Δ R.reached R.sized b;
      means = means_along xs count S.names C v R.condition p (match_within C l zs b) R.means;
    }

-- What the code does for a place.
module _ (question : List ℕ) (j row count : ℕ) (t f : List ℕ) (n : ℕ) (en : n ≡ get_or t (9 * j) 0) where
  same_definition : (q : Question) (Δ : Defs) (k : ℕ) (xs v : List ℕ) (R : Reachable q Δ k xs t v j) → R.definition ≡ n
  same_definition q Δ k xs v R = sym R.row.definition ∙ sym en

  pub open_undefined : most_definitions ≤ n → OpenPlaceIs question j row count t f f
  open_undefined h = record {
    kept = λ r i x. x;
    is = λ q Δ k xs v S p e R. absurd (omega (arith, few_definitions question q Δ k xs t count S v j R, same_definition q Δ k xs v R));
  }

  module _ (body : List ℕ) (B : BodyIs question n body) where
    pub open_long : longest_term < length body → OpenPlaceIs question j row count t f f
    open_long h = record {
      kept = λ r i x. x;
      is = λ q Δ k xs v S p e R.
          absurd (omega (
            arith,
            ap length (B.is q S.defines.accepted (subst (λ i. i < length q.arities) (same_definition q Δ k xs v R) R.there)),
            body-size question q S.defines.accepted n,
          ));
    }

    pub open_walked : (f' : List ℕ) → FindTermIs question body 0 j row count t f f' → OpenPlaceIs question j row count t f f'
    open_walked f' F = record {
      kept = F.kept;
      is = λ q Δ k xs v S p e R.
          F.is q Δ S.defines xs R.names v (Δ.body R.definition) (body_stands question q Δ k xs t count S v j R n en body B) p e;
    }
