-- The call at a place of a body, put into the table of places. Assumes nothing.
use mathlib.Core.List.{List, [], reverse}
use mathlib.Core.Logic.{◌⊎◌, inl, inr, ⊎_elim}
use mathlib.Core.Path.{◌≡◌, sym, ap, subst, ◌∙◌}
use native.Mathlib.Decide.{ℕ_discrete}
use native.Mathlib.Omega.{arith}
use Prim.Native.Nat.{ℕ, suc, ◌+◌, ◌<◌, ◌≤◌}
use lib.ListN.{length, get_or, set, length-map}
use lib.Seq.{get_or-set_same, get_or-set_other}
use Rattle.std.specs.Prelude.{Option, Some, None}
use Rattle.calculus.specs.Cond.{Cond}
use Rattle.calculus.specs.Definitions.{Defs, opened}
use Rattle.calculus.specs.Term.{Term, call}
use Rattle.calls.specs.Reach.{Bare, b_call}
use Rattle.terms.specs.Encoding.{name_byte, encode, InScope}
use Rattle.terms.specs.Limits.{greatest_arity}
use Rattle.terms.specs.Question.{Question}
use Rattle.terms.proofs.ScopeLaws.{name_within}
use Rattle.terms_bytes.proofs.Stores.{get_d_front, get_d_map}
use Rattle.steps_partitions.specs.Partition.{most_partitions, rank, Partition}
use Rattle.steps_partitions.proofs.PartitionLaws.{partition_below, way_at}
use Rattle.steps_tallies.specs.Bodies.{AritiesIs}
use Rattle.steps_tallies.proofs.CallLaws.{few_parameters}
use Rattle.steps_tallies.proofs.CandidateForms.{tag_at, only_call}
use Rattle.steps_reach.specs.CallTable.{most_calls, RowIs, Named}
use Rattle.steps_reach.specs.Walks.{Defines, CalledNamesIs}
use Rattle.steps_reach.proofs.CallWalks.{given}
use Rattle.steps_places.specs.PlaceTable.{bit, Has, along}
use Rattle.steps_places.specs.PlaceWalks.{WithBit, CallNumberIs, Standing, Adds, FindTermIs}
use Rattle.steps_places.proofs.SlotLaws.{name_read}

-- A bit set in a row.
module _ (f : List ℕ) (row i w : ℕ) (W : WithBit (get_or f row 0) i w) (l : row < length f) where
  pub set_there : Has (set f row w) row i
  set_there = ap (λ x. bit x i) (get_or-set_same f row w 0 l) ∙ W.set

  set-kept : (r x : ℕ) → Has f r x → Has (set f row w) r x
  set-kept r x h = go (ℕ_discrete r row)
    where
      go : Dec (r ≡ row) → Has (set f row w) r x
      go (yes e) = ap (λ y. bit y x) (ap (λ z. get_or (set f row w) z 0) e ∙ get_or-set_same f row w 0 l) ∙ W.kept x (ap (λ z. bit (get_or f z 0) x) (sym e) ∙ h)
      go (no n) = ap (λ y. bit y x) (get_or-set_other f row r w 0 n) ∙ h

  pub set_only : (r x : ℕ) → Has (set f row w) r x → Has f r x ⊎ ((r ≡ row) × (x ≡ i))
  set_only r x h = go (ℕ_discrete r row)
    where
      go : Dec (r ≡ row) → Has f r x ⊎ ((r ≡ row) × (x ≡ i))
      go (yes e) = ⊎_elim (λ (z : x ≡ i). inr (e, z)) (λ (z : bit (get_or f row 0) x ≡ 1). inl (ap (λ y. bit (get_or f y 0) x) e ∙ z))
          (W.only x (ap (λ y. bit y x) (sym (ap (λ z. get_or (set f row w) z 0) e ∙ get_or-set_same f row w 0 l)) ∙ h))
      go (no n) = inl (ap (λ y. bit y x) (sym (get_or-set_other f row r w 0 n)) ∙ h)

-- The call l⟨ns⟩ in the body of the call of number j, as the code finds it: definition k, with n names.
module _ (question s : List ℕ) (at j row count : ℕ) (t f : List ℕ) (k : ℕ) (ek : k ≡ get_or s (at + 1) 0) (arities : List ℕ) (A : AritiesIs question arities)
    (n : ℕ) (en : n ≡ get_or arities k 0) where
  module _ (q : Question) (Δ : Defs) (d : Defines question q Δ) (xs ys : List ℕ) (l : ℕ) (ns : List ℕ) (S : Standing q s at j t count xs ys (call l ns)) where
    same_definition : l ≡ k
    unfolding encode
    same_definition = sym (get_d_front s at (encode (length ys) (call l ns)) S.rest 1 S.bytes (omega arith)) ∙ sym ek

    own_arity : length ns ≡ n
    unfolding InScope AritiesIs
    own_arity = S.scope.1 ∙ ap (λ i. get_or q.arities i 0) same_definition ∙ ap (λ i. get_or i k 0) (sym (A q d.accepted)) ∙ sym en

    few_names : n ≤ greatest_arity
    unfolding AritiesIs
    few_names = omega (arith, en ∙ ap (λ i. get_or i k 0) (A q d.accepted), few_parameters question q d.accepted k)

    given-length : length (given ys ns) ≡ n
    given-length = length-map ns (λ i. get_or (reverse ys) i 0) ∙ own_arity

  abbrev Here : Question → List ℕ → List ℕ → List ℕ → List ℕ → Term → Type 0
  Here q xs ys v f' P = Standing q s at j t count xs ys P → Adds xs t v (opened ys P) f f'

  -- It is enough to look at calls.
  each-call : 8 < get_or s at 0 → (f' : List ℕ) → ((r i : ℕ) → Has f r i → Has f' r i)
      → ((q : Question) (Δ : Defs) → Defines question q Δ → (xs ys v : List ℕ) (l : ℕ) (ns : List ℕ) → Standing q s at j t count xs ys (call l ns)
      → Partition count v → rank v ≡ row → Adds xs t v (call l (given ys ns)) f f') → FindTermIs question s at j row count t f f'
  each-call far f' kept h = record {
    kept = kept;
    is = λ q Δ d xs ys v P S p e. only_call (Here q xs ys v f') (λ l ns S. h q Δ d xs ys v l ns S p e) P
        (subst (λ i. 8 < i) (tag_at s at (length ys) P S.rest S.bytes) far) S;
  }

  -- No call of an accepted question has so many names.
  pub put-many : 8 < get_or s at 0 → greatest_arity < n → FindTermIs question s at j row count t f f
  put-many far h = each-call far f (λ r i x. x) (λ q Δ d xs ys v l ns S p e. absurd (omega (arith, few_names q Δ d xs ys l ns S)))

  module _ (far : 8 < get_or s at 0) (names : List ℕ) (N : CalledNamesIs question s (at + 2) n t j names) where
    given-names : (q : Question) (Δ : Defs) (d : Defines question q Δ) (xs ys : List ℕ) (l : ℕ) (ns : List ℕ)
        (S : Standing q s at j t count xs ys (call l ns)) → (e : ℕ) → e < n → get_or names e 0 ≡ get_or (given ys ns) e 0
    unfolding encode InScope
    given-names q Δ d xs ys l ns S e h =
        let i : e < length ns = omega (arith, own_arity q Δ d xs ys l ns S) in
        let m = name_within 0 (length ys) ns S.scope.2 e i in
        name_read question q Δ d s at j t count xs ys (call l ns) S (at + 2) n names N e (get_or ns e 0) (suc (suc e)) h (omega arith)
        (omega (arith, length-map ns (name_byte (length ys)))) (get_d_map (name_byte (length ys)) ns e i) (omega (arith, m))
        ∙ sym (get_d_map (λ x. get_or (reverse ys) x 0) ns e i)

    module _ (o : Option ℕ) (C : CallNumberIs t k names n o) where
      -- It has a row.
      pub put_unlisted : o ≡ None → FindTermIs question s at j row count t f f
      unfolding Named
      put_unlisted none = each-call far f (λ r i x. x) (λ q Δ d xs ys v l ns S p e.
          let (y, h, R) = S.listed [] l (given ys ns) b_call in
          absurd (C.absent none y h (
            R.definition ∙ same_definition q Δ d xs ys l ns S,
            λ z u. R.names z (omega (arith, given-length q Δ d xs ys l ns S))
                ∙ sym (given-names q Δ d xs ys l ns S z u),
          )))

      pub put-outside : count ≤ greatest_arity → length f ≡ most_partitions → length f ≤ row → FindTermIs question s at j row count t f f
      put-outside few whole past = each-call far f (λ r i x. x) (λ q Δ d xs ys v l ns S p e.
          absurd (omega (arith, partition_below count v p, (way_at count 0 (omega arith)).1, e)))

      pub put_there : (i : ℕ) → o ≡ Some i → row < length f → (w : ℕ) → WithBit (get_or f row 0) i w → FindTermIs question s at j row count t f (set f row w)
      unfolding along Named
      put_there i got room w W = each-call far (set f row w) (set-kept f row i w W room) (λ q Δ d xs ys v l ns S p e.
          let H = (C.held i got).1 in
          let R : RowIs t i (l, given ys ns) = record {
            definition = H.0 ∙ sym (same_definition q Δ d xs ys l ns S);
            names = λ z u. let g : z < n = omega (arith, given-length q Δ d xs ys l ns S) in H.1 z g ∙ given-names q Δ d xs ys l ns S z g;
          } in
          record {
            all = all' xs v l (given ys ns) R e;
            only = λ r x h. ⊎_elim (λ (y : Has f r x). inl y) (λ (y : (r ≡ row) × (x ≡ i)). inr (record {
              condition = [];
              definition = l;
              names = given ys ns;
              bare = b_call;
              row = subst (λ a. RowIs t a (l, given ys ns)) (sym y.1) R;
              number = y.0 ∙ sym e;
            })) (set_only f row i w W room r x h);
          })
        where
          all' : (xs v : List ℕ) (l : ℕ) (ys : List ℕ) → RowIs t i (l, ys) → rank v ≡ row → (C : Cond) (m : ℕ) (zs : List ℕ) → Bare (call l ys) C m zs
              → (x : ℕ) × (x < most_calls) × RowIs t x (m, zs) × Has (set f row w) (rank (along xs v C)) x
          all' xs v l ys R e D m zs b_call = (i, (C.held i got).0, R, subst (λ a. Has (set f row w) a i) (sym e) (set_there f row i w W room))
