-- What the walk of a body puts into the table of calls, form by form. Assumes nothing.
use mathlib.Core.List.{List, ◌++◌}
use mathlib.Core.Path.{◌≡◌, refl, sym, ap, ◌∙◌}
use native.Mathlib.Omega.{arith}
use Prim.Native.Nat.{ℕ, ◌+◌, ◌<◌, ◌≤◌}
use lib.ListN.{length, get_or, drop, length-append}
use lib.Seq.{drop-drop}
use Rattle.std.specs.Prelude.{Option, Some, None}
use Rattle.calculus.specs.Cond.{Cond}
use Rattle.calculus.specs.Definitions.{Defs, at, opened}
use Rattle.calculus.specs.Term.{Term, nil, tau, inp, out, bout, mat, sum, par, res, call, ren}
use Rattle.calls.specs.Reach.{Bare}
use Rattle.calls.specs.ReachLimit.{Call}
use Rattle.terms.specs.Encoding.{encode, InScope}
use Rattle.terms.specs.Question.{Question}
use Rattle.terms.proofs.ReadEncoded.{encode-some}
use Rattle.steps_tallies.specs.Tally.{TallyIs, end_at}
use Rattle.steps_tallies.proofs.OwnNames.{own_part}
use Rattle.steps_tallies.proofs.CallLaws.{few_parameters}
use Rattle.steps_tallies.proofs.CandidateForms.{tag, tag_at, only_mat, only_sum}
use Rattle.steps_tallies.proofs.FrontLaws.{stands, at_left, at_right}
use Rattle.steps_reach.specs.CallTable.{most_calls}
use Rattle.steps_reach.specs.Walks.{Defines, Tabled, Answers, Stands, ReachTermIs}
use Rattle.steps_reach.proofs.Rows.{row_kept}
use Rattle.steps_reach.proofs.Walking.{quiet_walked, mat-walked, sum-walked, mat_exceeded, left_exceeded, right_exceeded}

pub some_none : {a : ℕ} → ◌≡◌ {A = Option ℕ} (Some a) None → ⊥
some_none e = let z : ◌≡◌ {A = ℕ} 0 1 = cc in omega arith

pub some_is : {a b : ℕ} → ◌≡◌ {A = Option ℕ} (Some a) (Some b) → a ≡ b
some_is e = cc

-- Only matches, choices and calls have unprefixed calls that a walk goes on to.
pub no_bare : (σ : ℕ → ℕ) (P : Term) → (tag P ≡ 5 → ⊥) → (tag P ≡ 6 → ⊥) → (tag P ≡ 9 → ⊥) → (C : Cond) (l : ℕ) (ys : List ℕ) → ¬ Bare (ren σ P) C l ys
no_bare σ nil m s c C l ys b = elim b [ ]
no_bare σ (tau P) m s c C l ys b = elim b [ ]
no_bare σ (inp a P) m s c C l ys b = elim b [ ]
no_bare σ (out a x P) m s c C l ys b = elim b [ ]
no_bare σ (bout a P) m s c C l ys b = elim b [ ]
no_bare σ (mat a x P) m s c C l ys b = absurd (m refl)
no_bare σ (sum P Q) m s c C l ys b = absurd (s refl)
no_bare σ (par P Q) m s c C l ys b = elim b [ ]
no_bare σ (res P) m s c C l ys b = elim b [ ]
no_bare σ (call k xs) m s c C l ys b = absurd (c refl)

mat-answers : (Δ : Defs) (a b : ℕ) (P : Term) (cs : List Call) (t : List ℕ) (r : Option ℕ) → Answers Δ P cs t r → Answers Δ (mat a b P) cs t r
mat-answers Δ a b P cs t r A = record {
  within = λ n l. let T = A.within n l in record { list = T.list; size = T.size; table = T.table; sized = T.sized; walked = mat-walked Δ a b T.walked };
  past = λ l. mat_exceeded Δ a b (A.past l);
}

sum-answers : (Δ : Defs) (P Q : Term) (cs : List Call) (t₁ : List ℕ) (n : ℕ) (T : Tabled Δ P cs t₁ n) (t₂ : List ℕ) (r : Option ℕ) → Answers Δ Q T.list t₂ r
    → Answers Δ (sum P Q) cs t₂ r
sum-answers Δ P Q cs t₁ n T t₂ r A = record {
  within = λ m l.
      let U = A.within m l in
      record { list = U.list; size = U.size; table = U.table; sized = U.sized; walked = sum-walked Δ T.walked U.walked };
  past = λ l. right_exceeded Δ T.walked (A.past l);
}

module _ (question s : List ℕ) (at row : ℕ) (t : List ℕ) (size : ℕ) (held : size ≤ most_calls) where
  abbrev here : Question → Defs → List ℕ → Term → List Call → Type 0
  here q Δ xs P cs = Stands q Δ s at row t size xs P cs

  -- Nothing stands unprefixed there.
  still : ((q : Question) (Δ : Defs) (xs : List ℕ) (P : Term) (cs : List Call) → here q Δ xs P cs → (C : Cond) (l : ℕ) (ys : List ℕ)
      → ¬ Bare (opened xs P) C l ys) → ReachTermIs question s at row t size t (Some size)
  still h = record {
    on = λ n e. let z = some_is e in (omega arith, omega arith);
    kept = λ i l. refl;
    is = λ q Δ d xs P cs S. record {
      within = λ n e. record {
        list = cs;
        size = S.count ∙ some_is e;
        table = S.table;
        sized = S.sized;
        walked = quiet_walked Δ (opened xs P) cs (h q Δ xs P cs S) S.distinct;
      };
      past = λ e. absurd (some_none e);
    };
  }

  pub reach_past : length s ≤ at → ReachTermIs question s at row t size t (Some size)
  reach_past p = still (λ q Δ xs P cs S C l ys b. let z = stands s at (length xs) P S.rest S.bytes in absurd (omega arith))

  pub reach_other : (get_or s at 0 ≡ 5 → ⊥) → (get_or s at 0 ≡ 9 → ⊥) → (get_or s at 0 ≡ 6 → ⊥) → ReachTermIs question s at row t size t (Some size)
  reach_other m c x = still (λ q Δ xs P cs S.
      let g = tag_at s at (length xs) P S.rest S.bytes in
      no_bare _ P (λ e. m (g ∙ e)) (λ e. x (g ∙ e)) (λ e. c (g ∙ e)))

  pub reach_short : length s ≤ at + 1 → get_or s at 0 ≡ 6 → ReachTermIs question s at row t size t (Some size)
  unfolding encode
  reach_short p e = still (λ q Δ xs P cs S C l ys b.
      let g = tag_at s at (length xs) P S.rest S.bytes in
      let z = stands s at (length xs) P S.rest S.bytes in
      absurd (long (length xs) P (sym g ∙ e) (omega arith)))
    where
      long : (D : ℕ) (P : Term) → tag P ≡ 6 → length (encode D P) ≤ 1 → ⊥
      long D = only_sum (λ P. length (encode D P) ≤ 1 → ⊥) (λ P Q l. omega (arith, encode-some D P, length-append (encode D P) (encode D Q)))

-- A match: the continuation stands behind three bytes.
pub reach_mat : (question s : List ℕ) (at row : ℕ) (t : List ℕ) (size : ℕ) (t' : List ℕ) (r : Option ℕ) → get_or s at 0 ≡ 5
    → ReachTermIs question s (at + 3) row t size t' r → ReachTermIs question s at row t size t' r
unfolding encode InScope
reach_mat question s at row t size t' r g R = record {
  on = R.on;
  kept = R.kept;
  is = λ q Δ d xs P cs S. only_mat (λ P. Stands q Δ s at row t size xs P cs → Answers Δ (opened xs P) cs t' r)
      (λ a b Q S. mat-answers Δ _ _ (opened xs Q) cs t' r (R.is q Δ d xs Q cs (record {
        scope = S.scope.2;
        rest = S.rest;
        bytes = sym (drop-drop 3 at s) ∙ ap (drop 3) S.bytes;
        definition = S.definition;
        arity = S.arity;
        called = S.called;
        count = S.count;
        table = S.table;
        sized = S.sized;
        distinct = S.distinct;
      })))
      P (sym (tag_at s at (length xs) P S.rest S.bytes) ∙ g) S;
}

module _ (question s : List ℕ) (at row : ℕ) (t : List ℕ) (size : ℕ) (g : get_or s at 0 ≡ 6) (t₁ : List ℕ) (left : Option ℕ)
    (R : ReachTermIs question s (at + 1) row t size t₁ left) where
  -- The left side of a choice.
  left_stands : (q : Question) (Δ : Defs) (xs : List ℕ) (P Q : Term) (cs : List Call) → Stands q Δ s at row t size xs (sum P Q) cs
      → Stands q Δ s (at + 1) row t size xs P cs
  unfolding encode InScope
  left_stands q Δ xs P Q cs S = record {
    scope = S.scope.0;
    rest = encode (length xs) Q ++ S.rest;
    bytes = at_left (length xs) s at P Q S.rest 6 S.bytes;
    definition = S.definition;
    arity = S.arity;
    called = S.called;
    count = S.count;
    table = S.table;
    sized = S.sized;
    distinct = S.distinct;
  }

  -- A choice whose left side reaches more calls than the table holds.
  pub reach_left : left ≡ None → ReachTermIs question s at row t size t₁ None
  reach_left over = record {
    on = λ n e. absurd (some_none (sym e));
    kept = R.kept;
    is = λ q Δ d xs P cs S. only_sum (λ P. Stands q Δ s at row t size xs P cs → Answers Δ (opened xs P) cs t₁ None)
        (λ P Q S. record {
          within = λ n e. absurd (some_none (sym e));
          past = λ e. left_exceeded Δ ((R.is q Δ d xs P cs (left_stands q Δ xs P Q cs S)).past over);
        })
        P (sym (tag_at s at (length xs) P S.rest S.bytes) ∙ g) S;
  }

  -- A choice of both sides.
  module _ (before : row < size) (n : ℕ) (got : left ≡ Some n) (tally : List ℕ) (T : TallyIs question s 0 tally) (e : ℕ) (end : e ≡ end_at tally (at + 1))
      (t₂ : List ℕ) (r : Option ℕ) (R₂ : ReachTermIs question s e row t₁ n t₂ r) where
    right_stands : (q : Question) (Δ : Defs) → Defines question q Δ → (xs : List ℕ) (P Q : Term) (cs : List Call) → Stands q Δ s at row t size xs (sum P Q) cs
        → (U : Tabled Δ (opened xs P) cs t₁ n) → Stands q Δ s e row t₁ n xs Q U.list
    unfolding encode InScope
    right_stands q Δ d xs P Q cs S U =
        let b = at_left (length xs) s at P Q S.rest 6 S.bytes in
        let l = (T.is q (at + 1) 0 (length xs) (λ i. i) (own_part 0) P (encode (length xs) Q ++ S.rest) d.accepted S.scope.0 b).2 in
        record {
          scope = S.scope.1;
          rest = S.rest;
          bytes = at_right (length xs) s at P Q S.rest 6 S.bytes e (end ∙ l);
          definition = S.definition;
          arity = S.arity;
          called = row_kept t t₁ size row (S.definition, xs) before (omega (arith, S.arity, few_parameters question q d.accepted S.definition))
              R.kept S.called;
          count = U.size;
          table = U.table;
          sized = U.sized;
          distinct = U.walked.distinct;
        }

    pub reach_both : ReachTermIs question s at row t size t₂ r
    reach_both = record {
      on = λ m e. let a = R.on n got in let b = R₂.on m e in (omega arith, b.1);
      kept = λ i l. R₂.kept i (let a = R.on n got in omega arith) ∙ R.kept i l;
      is = λ q Δ d xs P cs S. only_sum (λ P. Stands q Δ s at row t size xs P cs → Answers Δ (opened xs P) cs t₂ r)
          (λ P Q S.
          let U = (R.is q Δ d xs P cs (left_stands q Δ xs P Q cs S)).within n got in
          sum-answers Δ (opened xs P) (opened xs Q) cs t₁ n U t₂ r (R₂.is q Δ d xs Q U.list (right_stands q Δ d xs P Q cs S U)))
          P (sym (tag_at s at (length xs) P S.rest S.bytes) ∙ g) S;
    }
