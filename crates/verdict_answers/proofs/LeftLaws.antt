-- Whether a situation is left, by the byte of its slot. Assumes nothing.
use mathlib.Core.Bool.{Bool, true, false, cond}
use mathlib.Core.List.{List}
use mathlib.Core.Path.{◌≡◌, refl, sym, ap, ◌∙◌, subst}
use native.Mathlib.Omega.{arith}
use Prim.Native.Nat.{ℕ, ◌<◌}
use lib.Dec.{eqb}
use lib.ListN.{length, get_or, take}
use borrow.Author.Tests.{eqb-true, eqb-false}
use Rattle.calculus.specs.Lists.{◌∈◌}
use Rattle.calculus.proofs.Membership.{∈-all}
use Rattle.field_slots.specs.Chains.{Chained, FindsIn}
use Rattle.field.specs.Exploration.{found}
use Rattle.field_slots.specs.Key.{key_at, FoundIs}
use Rattle.field.specs.Situation.{Situation}
use Rattle.field_pairs.specs.Slot.{key_of, key_bytes, struck_at, LeftAtIs}
use Rattle.std.specs.Prelude.{Option, Some, None, is_some}
use Rattle.field.proofs.Unseen.{∈-found, found-∈}
use Rattle.field.proofs.Members.{get_d_∈}
use Rattle.field_growth.proofs.KeysDiffer.{slot_key}
use Rattle.verdict_answers.specs.Striking.{left_of, marks, Standing, left_at, LeftIs}
use Rattle.verdict_answers.proofs.Living.{living-at, at-living}
use Rattle.verdict_answers.proofs.Marks.{length-marks, marks-at}

module _ {capacity : ℕ} (work : List ℕ) (known : List Situation) (st : Standing capacity work known) where
  -- equal situations have one number
  pub number_once : (i j : ℕ) (d e : Situation) → i < length known → j < length known → get_or known i d ≡ get_or known j e → i ≡ j
  number_once i j d e h k q =
      st.once i j h k
      (slot_key work i (get_or known i d) (st.held i d h) ∙ ap key_of q ∙ sym (slot_key work j (get_or known j e) (st.held j e k)))

  lives_known : (s : Situation) → s ∈ left_of work known → s ∈ known
  lives_known s m =
      let l = living-at (marks work (length known)) known s m in
      subst (λ t. t ∈ known) l.is (get_d_∈ known l.number s l.within)

  pub left-found : (i : ℕ) (s d : Situation) → i < length known → get_or known i d ≡ s → found (left_of work known) s ≡ eqb (get_or work (struck_at i) 0) 0
  left-found i s d h e = go (eqb (get_or work (struck_at i) 0) 0) refl
    where
      flags : List ℕ
      flags = marks work (length known)

      dies : (b : Bool) → found (left_of work known) s ≡ b → eqb (get_or work (struck_at i) 0) 0 ≡ false → found (left_of work known) s ≡ false
      dies false q k = q
      dies true q k =
          let m = found-∈ (λ t. t ∈ known) st.exact (left_of work known) s (∈-all (λ t. t ∈ known) (left_of work known) lives_known)
          (subst (λ t. t ∈ known) e (get_d_∈ known i d h)) q in
          let l = living-at flags known s m in
          let n : l.number ≡ i = number_once l.number i s d l.within h (l.is ∙ sym e) in
          absurd (eqb-false (get_or work (struck_at i) 0) 0 k
          (sym (marks-at work (length known) i 1 h) ∙ ap (λ j. get_or flags j 1) (sym n) ∙ l.flag))

      go : (b : Bool) → eqb (get_or work (struck_at i) 0) 0 ≡ b → found (left_of work known) s ≡ eqb (get_or work (struck_at i) 0) 0
      go true k =
          ∈-found (left_of work known) s
          (subst (λ t. t ∈ left_of work known) e
          (at-living flags known i d (omega (arith, length-marks work (length known))) h
          (marks-at work (length known) i 1 h ∙ eqb-true (get_or work (struck_at i) 0) 0 k)))
          ∙ sym k
      go false k = dies (found (left_of work known) s) refl k ∙ sym k

no_slot : {X : Type 0} (i : ℕ) → ◌≡◌ {A = Option ℕ} None (Some i) → X
no_slot i e = let z : ◌≡◌ {A = ℕ} 0 1 = cc in absurd (omega arith)

-- find_left
module _ (capacity : ℕ) (work : List ℕ) (count : ℕ) (key : List ℕ) where
  -- the slot that was found, by its byte
  module _ (k : ℕ) (r : Bool) (f : FindsIn capacity work count key (Some k)) (l : LeftAtIs work k r) where
    left_there : (x : Option ℕ) → cond r (Some k) None ≡ x → Chained capacity work count → (i : ℕ)
        → ((j : ℕ) → j < count → key_at work j ≡ take key_bytes key → j ≡ i) → x ≡ left_at work i
    unfolding FoundIs LeftAtIs left_at
    left_there x e C i only =
        let (h, q) = f.is C in
        sym e ∙ ap (λ b. cond b (Some k) None) l ∙ ap (left_at work) (only k h q)

    pub found_left : r ≡ true → LeftIs capacity work count key (Some k)
    found_left e = record { within = f.within; is = λ C i m q. left_there (Some k) (ap (λ b. cond b (Some k) None) e) C i }

    pub found_struck : r ≡ false → LeftIs capacity work count key None
    found_struck e = record { within = λ i z. no_slot i z; is = λ C i m q. left_there None (ap (λ b. cond b (Some k) None) e) C i }

  pub nothing_left : FindsIn capacity work count key None → LeftIs capacity work count key None
  unfolding FoundIs
  nothing_left f = record { within = f.within; is = λ C i m q only. absurd (f.is C i m q) }

pub left-test : (work : List ℕ) (i : ℕ) → is_some (left_at work i) ≡ eqb (get_or work (struck_at i) 0) 0
unfolding left_at
left-test work i = go (eqb (get_or work (struck_at i) 0) 0)
  where
    go : (b : Bool) → is_some (cond b (Some i) None) ≡ b
    go true = refl
    go false = refl

pub left-slot : (work : List ℕ) (i j : ℕ) → left_at work i ≡ Some j → i ≡ j
unfolding left_at
left-slot work i j e = go (eqb (get_or work (struck_at i) 0) 0) e
  where
    go : (b : Bool) → cond b (Some i) None ≡ Some j → i ≡ j
    go true q = cc
    go false q = no_slot j q
