-- Checks 14 and 15 of merge over an accepted question. Assumes nothing.
use mathlib.Core.Path.{◌≡◌, refl, sym, ap, ◌∙◌}
use mathlib.Core.Bool.{Bool, true, false, ◌&&◌, ◌||◌, not}
use mathlib.Core.List.{List, [], ◌∷◌}
use mathlib.Core.Logic.{◌⊎◌, inl, inr}
use Prim.Native.Nat.{ℕ, ◌+◌, ◌<◌, ◌≤◌}
use native.Mathlib.Nat.{add-zero}
use native.Mathlib.Omega.{arith}
use lib.ListN.{length, get_or, drop, length-drop}
use lib.Seq.{drop-drop}
use lib.Dec.{ltb, leb, eqb}
use borrow.Author.Tests.{lt-ltb, le-ltb, le-leb, lt-leb}
use Rattle.calculus.specs.Cond.{Pairs}
use Rattle.terms.specs.Limits.{name_count}
use Rattle.terms.specs.Answer.{Answer, refused, result, ◌>>=◌, ◌>>◌, need}
use Rattle.terms.specs.Operations.{holds_apart, merged_question, merged, written_within, merge_of}
use Rattle.terms.specs.Question.{Question, pair_bytes, edition_of, question_of, write_in}
use Rattle.terms.proofs.Answers.{bind_to, bind-refused, need-passed, need_failed}
use Rattle.terms_bytes.proofs.Stores.{get_d_front}

-- The search of the apart list, a pair at a time: what is left decides.
pub record Searching (list : List ℕ) (a b i : ℕ) (D : Pairs) : Type 0 where
  pub pairs : Pairs
  pub bytes : drop i list ≡ pair_bytes pairs
  pub same : holds_apart D a b ≡ holds_apart pairs a b

abbrev pub Search : List ℕ → ℕ → ℕ → ℕ → Type 0
Search list a b i = (D : Pairs) → list ≡ pair_bytes D → Searching list a b i D

pub search_starts : (list : List ℕ) (a b : ℕ) → Search list a b 0
search_starts list a b D e = record { pairs = D; bytes = e; same = refl }

pub search_ends : (list : List ℕ) (a b i : ℕ) → length list ≤ i → Search list a b i → (D : Pairs) → list ≡ pair_bytes D → false ≡ holds_apart D a b
unfolding pair_bytes holds_apart
search_ends list a b i past S D e = let L = S D e in sym (L.same ∙ none L.pairs L.bytes)
  where
    none : (E : Pairs) → drop i list ≡ pair_bytes E → holds_apart E a b ≡ false
    none [] q = refl
    none (p ∷ E) q = absurd (omega (arith, length-drop i list, ap length q))

module _ (list : List ℕ) (a b i : ℕ) (t : Bool)
    (is : t ≡ ((eqb (get_or list i 0) a && eqb (get_or list (i + 1) 0) b) || (eqb (get_or list i 0) b && eqb (get_or list (i + 1) 0) a))) (lt : i < length list) where
  pair_here : (p : ℕ × ℕ) (E : Pairs) → drop i list ≡ pair_bytes (p ∷ E)
      → t ≡ ((eqb p.0 a && eqb p.1 b) || (eqb p.0 b && eqb p.1 a))
  unfolding pair_bytes
  pair_here p E q =
      let x : get_or list i 0 ≡ p.0 = rw add-zero at (get_d_front list i (p.0 ∷ p.1 ∷ []) (pair_bytes E) 0 q (omega arith)) in
      let y : get_or list (i + 1) 0 ≡ p.1 = get_d_front list i (p.0 ∷ p.1 ∷ []) (pair_bytes E) 1 q (omega arith) in
      rw (← x, ← y) is

  pub search_found : t ≡ true → Search list a b i → (D : Pairs) → list ≡ pair_bytes D → true ≡ holds_apart D a b
  unfolding pair_bytes holds_apart
  search_found h S D e = let L = S D e in sym (L.same ∙ found L.pairs L.bytes)
    where
      found : (E : Pairs) → drop i list ≡ pair_bytes E → holds_apart E a b ≡ true
      found [] q = absurd (omega (arith, length-drop i list, ap length q))
      found (p ∷ E) q = rw (← pair_here p E q, h)

  pub search_on : t ≡ false → Search list a b i → Search list a b (i + 2)
  unfolding pair_bytes holds_apart
  search_on h S D e = let L = S D e in on L.pairs L.bytes L.same
    where
      on : (E : Pairs) → drop i list ≡ pair_bytes E → holds_apart D a b ≡ holds_apart E a b → Searching list a b (i + 2) D
      on [] q s = absurd (omega (arith, length-drop i list, ap length q))
      on (p ∷ E) q s = record {
        pairs = E;
        bytes = sym (drop-drop 2 i list) ∙ ap (drop 2) q;
        same = s ∙ rw (← pair_here p E q, h);
      }

  -- The list of pairs has an even length.
  pub search_odd : length list < i + 2 → Search list a b i → (D : Pairs) → list ≡ pair_bytes D → false ≡ holds_apart D a b
  unfolding pair_bytes
  search_odd short S D e = let L = S D e in absurd (even L.pairs L.bytes)
    where
      even : (E : Pairs) → drop i list ≡ pair_bytes E → ⊥
      even [] q = omega (arith, length-drop i list, ap length q)
      even (p ∷ E) q = omega (arith, length-drop i list, ap length q)

-- What merge makes of an accepted question.
module _ (s : List ℕ) (q : Question) (e : question_of s ≡ result q) (a b room : ℕ) where
  abbrev pub may_merge : Bool
  may_merge = ltb a name_count && ltb b name_count && not (holds_apart q.apart a b)

  merge_is : merge_of s a b room ≡ ((need 14 may_merge >> result (merged_question a b q)) >>= written_within (edition_of s) room)
  unfolding merge_of merged
  merge_is = ap (λ (m : Answer Question). m >>= written_within (edition_of s) room) (bind_to _ e)

  pub merge_turned : may_merge ≡ false → merge_of s a b room ≡ refused 14
  merge_turned t = merge_is ∙ bind-refused (written_within (edition_of s) room) (need_failed 14 may_merge (result (merged_question a b q)) t)

  merge_passes : may_merge ≡ true → merge_of s a b room ≡ written_within (edition_of s) room (merged_question a b q)
  merge_passes t = merge_is ∙ bind_to (written_within (edition_of s) room) (need-passed 14 may_merge (result (merged_question a b q)) t)

  pub merge_short : may_merge ≡ true → room < length (write_in (edition_of s) (merged_question a b q)) → merge_of s a b room ≡ refused 15
  unfolding written_within
  merge_short t h = merge_passes t ∙ need_failed 15 (leb (length (write_in (edition_of s) (merged_question a b q))) room) _ (lt-leb _ _ h)

  pub merge_writes : may_merge ≡ true → length (write_in (edition_of s) (merged_question a b q)) ≤ room → merge_of s a b room ≡ result (write_in (edition_of s) (merged_question a b q))
  unfolding written_within
  merge_writes t h = merge_passes t ∙ need-passed 15 (leb (length (write_in (edition_of s) (merged_question a b q))) room) _ (le-leb _ _ h)

  pub name_too_large : (name_count ≤ a) ⊎ (name_count ≤ b) → may_merge ≡ false
  name_too_large (inl h) = rw (le-ltb a name_count h)
  name_too_large (inr h) = go (ltb a name_count)
    where
      go : (t : Bool) → (t && ltb b name_count && not (holds_apart q.apart a b)) ≡ false
      go true = rw (le-ltb b name_count h)
      go false = refl

  pub may_merge_lem : (t : Bool) → t ≡ holds_apart q.apart a b → a < name_count → b < name_count → may_merge ≡ not t
  may_merge_lem t h x y = rw (lt-ltb a name_count x, lt-ltb b name_count y, h)
