-- What the walk of a body puts into the table of places, form by form. Assumes nothing.
use mathlib.Core.List.{List, ◌∷◌, ◌++◌}
use mathlib.Core.Logic.{inl, inr, ⊎_elim}
use mathlib.Core.Path.{◌≡◌, sym, ap, ◌∙◌}
use native.Mathlib.Omega.{arith}
use Prim.Native.Nat.{ℕ, ◌+◌, ◌<◌, ◌≤◌}
use lib.ListN.{length, get_or, drop, length-append}
use lib.Seq.{drop-drop}
use Rattle.calculus.specs.Cond.{Cond}
use Rattle.calculus.specs.Definitions.{Defs, opened}
use Rattle.calculus.specs.Term.{Term, mat, sum}
use Rattle.calls.specs.Reach.{Bare, b_mat, b_sum_l, b_sum_r}
use Rattle.terms.specs.Encoding.{encode, InScope}
use Rattle.terms.specs.Question.{Question}
use Rattle.terms.proofs.ReadEncoded.{encode-some}
use Rattle.steps_partitions.specs.Partition.{rank, Partition, merged_at}
use Rattle.steps_partitions.proofs.PartitionLaws.{merged_partition}
use Rattle.steps_tallies.proofs.OwnNames.{own_part}
use Rattle.steps_tallies.specs.Tally.{TallyIs, end_at}
use Rattle.steps_tallies.proofs.CandidateForms.{tag, tag_at, only_mat, only_sum}
use Rattle.steps_tallies.proofs.FrontLaws.{stands, at_left, at_right}
use Rattle.steps_reach.specs.CallTable.{most_calls, RowIs}
use Rattle.steps_reach.specs.Walks.{Defines}
use Rattle.steps_reach.proofs.WalkLaws.{no_bare}
use Rattle.steps_places.specs.PlaceTable.{Has, slot_of, along}
use Rattle.steps_places.specs.PlaceWalks.{Standing, MatchedIs, Onto, Adds, FindTermIs}

module _ (question s : List ℕ) (at j row count : ℕ) (t f : List ℕ) where
  -- Nothing stands unprefixed there.
  pub nothing : ((q : Question) (Δ : Defs) → Defines question q Δ → (xs ys v : List ℕ) (P : Term) → Standing q s at j t count xs ys P → Partition count v
      → rank v ≡ row → (C : Cond) (l : ℕ) (zs : List ℕ) → ¬ Bare (opened ys P) C l zs) → FindTermIs question s at j row count t f f
  nothing h = record {
    kept = λ r i x. x;
    is = λ q Δ d xs ys v P S p e. record { all = λ C l zs b. absurd (h q Δ d xs ys v P S p e C l zs b); only = λ r i x. inl x };
  }

  pub find_past : length s ≤ at → FindTermIs question s at j row count t f f
  find_past l = nothing (λ q Δ d xs ys v P S p e C m zs b. let z = stands s at (length ys) P S.rest S.bytes in absurd (omega arith))

  pub find_other : (get_or s at 0 ≡ 5 → ⊥) → (get_or s at 0 ≡ 9 → ⊥) → (get_or s at 0 ≡ 6 → ⊥) → FindTermIs question s at j row count t f f
  find_other m c x = nothing (λ q Δ d xs ys v P S p e.
      let g = tag_at s at (length ys) P S.rest S.bytes in
      no_bare _ P (λ e. m (g ∙ e)) (λ e. x (g ∙ e)) (λ e. c (g ∙ e)))

  pub find_short : length s ≤ at + 1 → get_or s at 0 ≡ 6 → FindTermIs question s at j row count t f f
  unfolding encode
  find_short l e = nothing (λ q Δ d xs ys v P S p k C m zs b.
      let g = tag_at s at (length ys) P S.rest S.bytes in
      let z = stands s at (length ys) P S.rest S.bytes in
      absurd (long (length ys) P (sym g ∙ e) (omega arith)))
    where
      long : (D : ℕ) (P : Term) → tag P ≡ 6 → length (encode D P) ≤ 1 → ⊥
      long D = only_sum (λ P. length (encode D P) ≤ 1 → ⊥) (λ P Q l. omega (arith, encode-some D P, length-append (encode D P) (encode D Q)))

-- A match.
onto_mat : (xs t v : List ℕ) (a b : ℕ) (P : Term) (r i : ℕ) → Onto xs t (merged_at v (slot_of xs a) (slot_of xs b)) P r i → Onto xs t v (mat a b P) r i
unfolding along
onto_mat xs t v a b P r i o = record {
  condition = (a, b) ∷ o.condition;
  definition = o.definition;
  names = o.names;
  bare = b_mat o.bare;
  row = o.row;
  number = o.number;
}

adds_mat : (xs t v : List ℕ) (a b : ℕ) (P : Term) (f f' : List ℕ) → Adds xs t (merged_at v (slot_of xs a) (slot_of xs b)) P f f' → Adds xs t v (mat a b P) f f'
unfolding along
adds_mat xs t v a b P f f' A = record {
  all = all';
  only = λ r i h. ⊎_elim (λ (x : Has f r i). inl x) (λ (x : Onto xs t (merged_at v (slot_of xs a) (slot_of xs b)) P r i). inr (onto_mat xs t v a b P r i x)) (A.only r i h);
}
  where
    all' : (C : Cond) (l : ℕ) (zs : List ℕ) → Bare (mat a b P) C l zs → (i : ℕ) × (i < most_calls) × RowIs t i (l, zs) × Has f' (rank (along xs v C)) i
    all' C l zs (b_mat h) = A.all _ l zs h

pub find_mat : (question s : List ℕ) (at j row count : ℕ) (t f f' : List ℕ) (row' : ℕ) → get_or s at 0 ≡ 5 → MatchedIs question s at j row count t row'
    → FindTermIs question s (at + 3) j row' count t f f' → FindTermIs question s at j row count t f f'
unfolding encode InScope MatchedIs
find_mat question s at j row count t f f' row' g M R = record {
  kept = R.kept;
  is = λ q Δ d xs ys v P S p e. only_mat (λ P. Standing q s at j t count xs ys P → Adds xs t v (opened ys P) f f')
      (λ a b Q S. adds_mat xs t v _ _ (opened ys Q) f f' (R.is q Δ d xs ys _ Q (record {
        scope = S.scope.2;
        rest = S.rest;
        bytes = sym (drop-drop 3 at s) ∙ ap (drop 3) S.bytes;
        definition = S.definition;
        arity = S.arity;
        called = S.called;
        first = S.first;
        within = S.within;
        listed = λ C l zs h. S.listed _ l zs (b_mat h);
      }) (merged_partition count v _ _ p) (sym (M q Δ d xs ys v a b Q S p e))))
      P (sym (tag_at s at (length ys) P S.rest S.bytes) ∙ g) S;
}

-- A choice.
adds_sum : (xs t v : List ℕ) (P Q : Term) (f f₁ f₂ : List ℕ) → Adds xs t v P f f₁ → Adds xs t v Q f₁ f₂ → ((r i : ℕ) → Has f₁ r i → Has f₂ r i)
    → Adds xs t v (sum P Q) f f₂
adds_sum xs t v P Q f f₁ f₂ A B K = record {
  all = all';
  only = λ r i h. ⊎_elim (λ (x : Has f₁ r i). ⊎_elim (λ (y : Has f r i). inl y) (λ (y : Onto xs t v P r i). inr (left r i y)) (A.only r i x))
      (λ (x : Onto xs t v Q r i). inr (right r i x)) (B.only r i h);
}
  where
    all' : (C : Cond) (l : ℕ) (zs : List ℕ) → Bare (sum P Q) C l zs → (i : ℕ) × (i < most_calls) × RowIs t i (l, zs) × Has f₂ (rank (along xs v C)) i
    all' C l zs (b_sum_l h) = let (i, k, R, x) = A.all C l zs h in (i, k, R, K (rank (along xs v C)) i x)
    all' C l zs (b_sum_r h) = B.all C l zs h

    left : (r i : ℕ) → Onto xs t v P r i → Onto xs t v (sum P Q) r i
    left r i o =
        record { condition = o.condition; definition = o.definition; names = o.names; bare = b_sum_l o.bare; row = o.row; number = o.number }

    right : (r i : ℕ) → Onto xs t v Q r i → Onto xs t v (sum P Q) r i
    right r i o =
        record { condition = o.condition; definition = o.definition; names = o.names; bare = b_sum_r o.bare; row = o.row; number = o.number }

pub find_sum : (question s : List ℕ) (at j row count : ℕ) (t f f₁ f₂ tally : List ℕ) (e : ℕ) → get_or s at 0 ≡ 6 → TallyIs question s 0 tally
    → e ≡ end_at tally (at + 1) → FindTermIs question s (at + 1) j row count t f f₁ → FindTermIs question s e j row count t f₁ f₂
    → FindTermIs question s at j row count t f f₂
unfolding encode InScope
find_sum question s at j row count t f f₁ f₂ tally e g T end R₁ R₂ = record {
  kept = λ r i x. R₂.kept r i (R₁.kept r i x);
  is = λ q Δ d xs ys v P S p k. only_sum (λ P. Standing q s at j t count xs ys P → Adds xs t v (opened ys P) f f₂)
      (λ P Q S.
      let b = at_left (length ys) s at P Q S.rest 6 S.bytes in
      let l = (T.is q (at + 1) 0 (length ys) (λ i. i) (own_part 0) P (encode (length ys) Q ++ S.rest) d.accepted S.scope.0 b).2 in
      adds_sum xs t v (opened ys P) (opened ys Q) f f₁ f₂
      (R₁.is q Δ d xs ys v P (record {
        scope = S.scope.0;
        rest = encode (length ys) Q ++ S.rest;
        bytes = b;
        definition = S.definition;
        arity = S.arity;
        called = S.called;
        first = S.first;
        within = S.within;
        listed = λ C m zs h. S.listed C m zs (b_sum_l h);
      }) p k)
      (R₂.is q Δ d xs ys v Q (record {
        scope = S.scope.1;
        rest = S.rest;
        bytes = at_right (length ys) s at P Q S.rest 6 S.bytes e (end ∙ l);
        definition = S.definition;
        arity = S.arity;
        called = S.called;
        first = S.first;
        within = S.within;
        listed = λ C m zs h. S.listed C m zs (b_sum_r h);
      }) p k)
      R₂.kept)
      P (sym (tag_at s at (length ys) P S.rest S.bytes) ∙ g) S;
}
