-- The table of calls from its first row: exactly the calls that opening a call reaches, or more than it holds. Assumes nothing.
use mathlib.Core.List.{List, [], ◌∷◌}
use mathlib.Core.Logic.{inl, inr}
use mathlib.Core.Path.{◌≡◌, refl, sym, ap, subst, ◌∙◌}
use native.Mathlib.Omega.{arith}
use Prim.Native.Nat.{ℕ, ◌<◌, ◌≤◌}
use lib.ListN.{length, get_or}
use Rattle.std.specs.Prelude.{Option, Some}
use Rattle.calculus.specs.Definitions.{Defs, opened}
use Rattle.calls.specs.ReachLimit.{Call}
use Rattle.terms.specs.Limits.{most_definitions, greatest_arity, longest_term}
use Rattle.terms.specs.Question.{Question}
use Rattle.steps_tallies.specs.Bodies.{BodyIs}
use Rattle.steps_tallies.specs.Tally.{TallyIs, body_tally, BodiesTallied}
use Rattle.steps_tallies.proofs.CallLaws.{body-size}
use Rattle.steps_reach.specs.CallTable.{table_bytes, RowIs}
use Rattle.steps_reach.specs.Walks.{Defines, Sized, Answers, Stands, ReachTermIs, ReachCallsIs}
use Rattle.steps_reach.proofs.CallWalks.{body_in_scope, body_bytes}
use Rattle.steps_reach.proofs.Rows.{row_kept, put_into, put-row}
use Rattle.steps_reach.proofs.WalkLaws.{some_none, some_is}
use Rattle.steps_reach.proofs.Walking.{opened-walked, opened_exceeded, reached_only, reached-all, reached-many}

-- The tally of a body.
pub body-tallied : (question bodies : List ℕ) → BodiesTallied question bodies → (k : ℕ) → k < most_definitions → (body : List ℕ) → BodyIs question k body
    → length body ≤ longest_term → (t : List ℕ) → t ≡ body_tally bodies k → TallyIs question body 0 t
body-tallied question bodies N k l body B short t e =
    subst (TallyIs question body 0) (sym e) (subst (λ (s : List ℕ). TallyIs question s 0 (body_tally bodies k)) (sym B.piece)
    (N.are k l (subst (λ (s : List ℕ). length s ≤ longest_term) B.piece short)))

module _ (question : List ℕ) (k : ℕ) (xs : List ℕ) (body : List ℕ) (B : BodyIs question k body) where
  -- No body of an accepted question is too long.
  pub reach_long : longest_term < length body → (t : List ℕ) → ReachCallsIs question k xs t (Some 1)
  reach_long long t = record {
    few = λ n e. let z = some_is e in omega arith;
    within = λ q Δ d there a n e. absurd (omega (arith, ap length (B.is q d.accepted there), body-size question q d.accepted k));
    past = λ q Δ d there a e. absurd (some_none e);
  }

  module _ (t : List ℕ) (whole : length t ≡ table_bytes) (few : length xs ≤ greatest_arity) (t₁ : List ℕ)
      (e : t₁ ≡ put_into t 0 k (length xs) xs (omega arith) whole few (omega arith)) (t₂ : List ℕ) (r : Option ℕ) (R : ReachTermIs question body 0 0 t₁ 1 t₂ r) where
    first : RowIs t₁ 0 (k, xs)
    first = subst (λ x. RowIs x 0 (k, xs)) (sym e) (put-row t 0 k (length xs) xs (omega arith) whole few (omega arith) xs refl (λ j h. refl))

    module _ (q : Question) (Δ : Defs) (d : Defines question q Δ) (there : k < length q.arities) (a : length xs ≡ get_or q.arities k 0) where
      own : length xs ≡ Δ.arity k
      own = a ∙ sym (d.arity k)

      alone : Sized Δ ((k, xs) ∷ [])
      alone c (inl e) = subst (λ (c : Call). length c.1 ≡ Δ.arity c.0) (sym e) own
      alone c (inr m) = absurd m

      start : Stands q Δ body 0 0 t₁ 1 xs (Δ.body k) ((k, xs) ∷ [])
      start = record {
        scope = body_in_scope question q Δ d k xs a;
        rest = [];
        bytes = body_bytes question q Δ d k xs a there body B;
        definition = k;
        arity = a;
        called = first;
        count = refl;
        table = (first, tt);
        sized = alone;
        distinct = (λ m. m, tt);
      }

      answers : Answers Δ (opened xs (Δ.body k)) ((k, xs) ∷ []) t₂ r
      answers = R.is q Δ d xs (Δ.body k) ((k, xs) ∷ []) start

    pub reach_calls_are : ReachCallsIs question k xs t₂ r
    reach_calls_are = record {
      few = λ n e. (R.on n e).1;
      within = λ q Δ d there a n e.
          let T = (answers q Δ d there a).within n e in
          let w = opened-walked Δ k xs [] T.list (own q Δ d there a) T.walked in
          record {
            list = T.list;
            size = T.size;
            table = T.table;
            first = row_kept t₁ t₂ 1 0 (k, xs) (omega arith) few R.kept first;
            sized = T.sized;
            distinct = T.walked.distinct;
            sound = reached_only Δ k xs T.list w;
            all = reached-all Δ k xs T.list w;
          };
      past = λ q Δ d there a l. reached-many Δ k xs (opened_exceeded Δ k xs [] (own q Δ d there a) ((answers q Δ d there a).past l));
    }
