-- The names of a body as places of the first call's names, and the rows behind matches. Assumes nothing.
use mathlib.Core.List.{List, ◌∷◌, reverse}
use mathlib.Core.Path.{◌≡◌, refl, sym, ap, subst, ◌∙◌}
use native.Mathlib.Omega.{arith}
use Prim.Native.Nat.{ℕ, suc, ◌+◌, ◌*◌, ◌<◌, ◌≤◌}
use lib.ListN.{length, get_or, drop}
use lib.Seq.{drop-cons, drop-length}
use borrow.Author.Tests.{eq-eqb, ne_eqb}
use Rattle.std.specs.Prelude.{Some, None}
use Rattle.steps_reach.proofs.WalkLaws.{some_none, some_is}
use Rattle.calculus.specs.Definitions.{Defs}
use Rattle.calculus.specs.Term.{Term, mat}
use Rattle.terms.specs.Encoding.{name_byte, encode, InScope}
use Rattle.terms.specs.Question.{Question}
use Rattle.terms.proofs.ReadEncoded.{encode-some}
use Rattle.terms_bytes.proofs.Stores.{get_d_front}
use Rattle.steps_partitions.specs.Partition.{rank, merged_at, MergedRowIs}
use Rattle.steps_reach.specs.CallTable.{most_calls, name_in, NamesIs, Held}
use Rattle.steps_reach.specs.Walks.{Defines, CalledNamesIs}
use Rattle.steps_reach.proofs.CallWalks.{parameter_byte}
use Rattle.steps_reach.proofs.TableLaws.{NotBelow}
use Rattle.steps_places.specs.PlaceTable.{slot_of}
use Rattle.steps_places.specs.PlaceWalks.{FirstNames, SlotIs, SlotFound, CallNumberIs, Standing, MatchedIs}

module _ (t : List ℕ) (count name : ℕ) where
  -- the name is none of the first j
  unfoldable pub NotYet : ℕ → Type 0
  NotYet j = (xs : List ℕ) → FirstNames t count xs → slot_of xs name ≡ j + slot_of (drop j xs) name

  pub slot-start : NotYet 0
  unfolding NotYet
  slot-start xs F = omega arith

  slot_at : (j : ℕ) → j < count → (xs : List ℕ) → FirstNames t count xs → (drop j xs ≡ get_or xs j 0 ∷ drop (suc j) xs) × (get_or t (1 + j) 0 ≡ get_or xs j 0)
  unfolding FirstNames
  slot_at j l xs F = (drop-cons xs j 0 (omega (arith, F.0)), F.1 j l)

  pub slot-more : (j : ℕ) → j < count → ¬ (get_or t (1 + j) 0 ≡ name) → NotYet j → NotYet (j + 1)
  unfolding NotYet slot_of
  slot-more j l h N xs F =
      let (d, e) = slot_at j l xs F in
      let s : suc j ≡ j + 1 = omega arith in
      let z : slot_of (drop j xs) name ≡ suc (slot_of (drop (suc j) xs) name) = ap (λ k. slot_of k name) d
      ∙ rw (ne_eqb name (get_or xs j 0) (λ q. h (e ∙ sym q))) refl in
      let y = ap (λ k. slot_of (drop k xs) name) s in
      omega (arith, N xs F, z, y)

  pub slot_there : (j : ℕ) → j < count → get_or t (1 + j) 0 ≡ name → NotYet j → SlotIs t count name j
  unfolding NotYet slot_of SlotIs
  slot_there j l h N xs F =
      let (d, e) = slot_at j l xs F in
      let z : slot_of (drop j xs) name ≡ 0 = ap (λ k. slot_of k name) d ∙ rw (eq-eqb name (get_or xs j 0) (sym h ∙ e)) refl in
      omega (arith, N xs F, z)

  pub slot-none : (j : ℕ) → count ≤ j → j ≤ count → NotYet j → SlotIs t count name count
  unfolding NotYet slot_of SlotIs FirstNames
  slot-none j l k N xs F =
      let e : j ≡ length xs = omega (arith, F.0) in
      let z : slot_of (drop j xs) name ≡ 0 = ap (λ i. slot_of (drop i xs) name) e ∙ ap (λ i. slot_of i name) (drop-length xs) in
      omega (arith, N xs F, z)

  pub slot-found : (j : ℕ) → j < count → get_or t (1 + j) 0 ≡ name → NotYet j → SlotFound t count name (Some j)
  slot-found j l h N = record {
    some = λ i e. subst (λ (j : ℕ). (j < count) × SlotIs t count name j) (some_is e) (l, slot_there j l h N);
    none = λ e. absurd (some_none e);
  }

  pub slot-absent : (j : ℕ) → count ≤ j → j ≤ count → NotYet j → SlotFound t count name None
  slot-absent j l k N = record { some = λ i e. absurd (some_none (sym e)); none = λ e. slot-none j l k N }

module _ (t : List ℕ) (k : ℕ) (names : List ℕ) (n : ℕ) where
  pub number_there : (i : ℕ) → i < most_calls → Held t i k names n → CallNumberIs t k names n (Some i)
  number_there i l h = record {
    held = λ j e. subst (λ (j : ℕ). (j < most_calls) × Held t j k names n) (some_is e) (l, h);
    absent = λ e. absurd (some_none e);
  }

  pub number-none : (i : ℕ) → most_calls ≤ i → NotBelow t k names n i → CallNumberIs t k names n None
  number-none i l h = record { held = λ j e. absurd (some_none (sym e)); absent = λ e j q. h j (omega arith) }

-- What the code reads for a parameter of the body.
module _ (question : List ℕ) (q : Question) (Δ : Defs) (d : Defines question q Δ) (s : List ℕ) (at j : ℕ) (t : List ℕ) (count : ℕ) (xs ys : List ℕ) (P : Term)
    (S : Standing q s at j t count xs ys P) where
  pub name_read : (from n : ℕ) (names : List ℕ) → CalledNamesIs question s from n t j names → (e x i : ℕ) → e < n → from + e ≡ at + i
      → i < length (encode (length ys) P) → get_or (encode (length ys) P) i 0 ≡ name_byte (length ys) x → x < length ys
      → get_or names e 0 ≡ get_or (reverse ys) x 0
  unfolding CalledNamesIs NamesIs
  name_read from n names N e x i l f h b m =
      let a : get_or q.arities (get_or t (9 * j) 0) 0 ≡ length ys = ap (λ k. get_or q.arities k 0) S.called.definition ∙ sym S.arity in
      let c : get_or s (from + e) 0 ≡ name_byte (length ys) x = ap (λ k. get_or s k 0) f ∙ get_d_front s at (encode (length ys) P) S.rest i S.bytes h ∙ b in
      N q d.accepted e l ∙ ap (λ k. name_in t j k (get_or s (from + e) 0)) a ∙ ap (name_in t j (length ys)) c
      ∙ parameter_byte t j S.definition ys x S.called m

-- The row behind a match.
module _ (question s : List ℕ) (at j row count : ℕ) (t names : List ℕ) (N : CalledNamesIs question s (at + 1) 2 t j names) (i₁ : ℕ)
    (S₁ : SlotIs t count (get_or names 0 0) i₁) where
  module _ (q : Question) (Δ : Defs) (d : Defines question q Δ) (xs ys : List ℕ) (a b : ℕ) (P : Term) (S : Standing q s at j t count xs ys (mat a b P)) where
    first_slot : i₁ ≡ slot_of xs (get_or (reverse ys) a 0)
    unfolding SlotIs encode InScope
    first_slot = S₁ xs S.first ∙ ap (slot_of xs) (name_read question q Δ d s at j t count xs ys (mat a b P) S (at + 1) 2 names N 0 a 1
        (omega arith) (omega arith) (omega (arith, encode-some (length ys) P)) refl (omega (arith, S.scope.0)))

  pub matched-first : count ≤ i₁ → (r : ℕ) → MatchedIs question s at j row count t r
  unfolding MatchedIs InScope
  matched-first h r q Δ d xs ys v a b P S p e = absurd (omega (arith, first_slot q Δ d xs ys a b P S, S.within a (omega (arith, S.scope.0))))

  module _ (i₂ : ℕ) (S₂ : SlotIs t count (get_or names 1 0) i₂) where
    module _ (q : Question) (Δ : Defs) (d : Defines question q Δ) (xs ys : List ℕ) (a b : ℕ) (P : Term) (S : Standing q s at j t count xs ys (mat a b P)) where
      second-slot : i₂ ≡ slot_of xs (get_or (reverse ys) b 0)
      unfolding SlotIs encode InScope
      second-slot = S₂ xs S.first ∙ ap (slot_of xs) (name_read question q Δ d s at j t count xs ys (mat a b P) S (at + 1) 2 names N 1 b 2
          (omega arith) (omega arith) (omega (arith, encode-some (length ys) P)) refl (omega (arith, S.scope.1)))

    pub matched-merged : (r : ℕ) → MergedRowIs row count i₁ i₂ r → MatchedIs question s at j row count t r
    unfolding MergedRowIs MatchedIs
    matched-merged r M q Δ d xs ys v a b P S p e = M v p e ∙ ap (λ k. rank (merged_at v k i₂)) (first_slot q Δ d xs ys a b P S)
        ∙ ap (λ k. rank (merged_at v (slot_of xs (get_or (reverse ys) a 0)) k)) (second-slot q Δ d xs ys a b P S)

    pub matched-second : count ≤ i₂ → (r : ℕ) → MatchedIs question s at j row count t r
    unfolding MatchedIs InScope
    matched-second h r q Δ d xs ys v a b P S p e = absurd (omega (arith, second-slot q Δ d xs ys a b P S, S.within b (omega (arith, S.scope.1))))
