-- The grammar walk over a term at a position: its front, then the walks over its subterms.
use mathlib.Core.Path.{◌≡◌, refl, sym, subst, ◌∙◌}
use mathlib.Core.Bool.{Bool, true, false, cond}
use mathlib.Core.List.{List, []}
use Prim.Native.Nat.{ℕ, zero, suc, ◌+◌, ◌-◌, ◌≤◌, ◌<◌}
use native.Mathlib.Omega.{arith}
use lib.ListN.{length, get_or, drop, drop_of_length-le, length-drop}
use lib.Dec.{leb, eqb}
use borrow.Author.Tests.{leb-true, leb-false, ne_eqb, eq-eqb}
use Rattle.calculus.specs.Term.{Term}
use Rattle.terms.specs.Edition.{Edition}
use Rattle.terms.specs.Answer.{Answer, refused, result, ◌>>=◌, ◌>>◌, need}
use Rattle.terms.specs.Reading.{byte, numbered, read_term, read_whole}
use Rattle.terms_scanning.specs.Scanning.{behind_front, front_answer, NextWithin, FrontIs, control_of, passing, combined, scanned, scan_answer, EndWithin, ScanIs, scanned_whole, whole_answer}
use Rattle.terms_bytes.specs.Shape.{binders_at, subterms_at}
use Rattle.terms_scanning.specs.declared.scan.Control.{Control}
use Rattle.std.specs.Prelude.{Result, Ok, Err}
use Rattle.terms_bytes.specs.Refusals.{number_of}
use Rattle.terms_bytes.specs.declared.answer.Refusal.{Refusal}
use Rattle.terms_bytes.specs.declared.answer.Refusal.TheVariants.{Grammar}
use Rattle.terms.proofs.Answers.{bind_to, bind-refused}
use Rattle.terms_scanning.proofs.ScanLaws.{drop_here}
use Rattle.terms_scanning.proofs.ScanShapes.{kept, subterms_scanned, scanned_by_shape}

pub end_within : (low high e : ℕ) (c : Control) → EndWithin low high (Ok (e, c)) → (low ≤ e) × (e ≤ high)
unfolding EndWithin
end_within low high e c w = w

-- Where no byte is left, both the term and its front fail check 7.
scanned_nothing : (ed : Edition) (free : ℕ) (arities : List ℕ) (n d : ℕ) → scanned ed free arities n d [] ≡ refused 7
unfolding scanned read_term byte ◌>>=◌
scanned_nothing ed free arities zero d = refl
scanned_nothing ed free arities (suc n) d = refl

front_nothing : (ed : Edition) (free : ℕ) (arities : List ℕ) (d : ℕ) → behind_front ed free arities d [] ≡ refused 7
unfolding behind_front byte ◌>>=◌
front_nothing ed free arities d = refl

module _ (ed : Edition) (free : ℕ) (arities : List ℕ) (d : ℕ) (s : List ℕ) (at : ℕ) where
  abbrev first_byte : ℕ
  first_byte = get_or s at 0

  -- Reading what stands at a position is reading its front and then its subterms.
  scanned-at : (n : ℕ) → length s ≤ at + n → scanned ed free arities n d (drop at s)
      ≡ (behind_front ed free arities d (drop at s) >>= subterms_scanned ed free arities (n - 1) first_byte (binders_at first_byte + d))
  scanned-at n h = go (leb (length s) at) refl n h
    where
      go : (t : Bool) → leb (length s) at ≡ t → (m : ℕ) → length s ≤ at + m → scanned ed free arities m d (drop at s)
          ≡ (behind_front ed free arities d (drop at s) >>= subterms_scanned ed free arities (m - 1) first_byte (binders_at first_byte + d))
      go true e m h =
          let l = leb-true (length s) at e in
          rw (drop_of_length-le s l) (scanned_nothing ed free arities m d ∙ sym (bind-refused _ (front_nothing ed free arities d)))
      go false e zero h = let l = leb-false (length s) at e in absurd (omega arith)
      go false e (suc m) h =
          let l = leb-false (length s) at e in
          let p : suc m - 1 ≡ m = omega arith in
          rw (drop_here s at l, p) (scanned_by_shape ed free arities m d first_byte (drop (at + 1) s))

  pub scan_wrong : (k : Refusal) → FrontIs ed free arities d s at (Err k) → ScanIs ed free arities d s at (Err k)
  unfolding front_answer scan_answer EndWithin
  scan_wrong k f = record { is = λ n h. scanned-at n h ∙ bind-refused _ f.is; within = tt }

  module _ (e : ℕ) (front : FrontIs ed free arities d s at (Ok e)) where
    inside : (at + 1 ≤ e) × (e ≤ length s)
    unfolding NextWithin
    inside = front.within

    behind : (n : ℕ) → length s ≤ at + n → scanned ed free arities n d (drop at s)
        ≡ subterms_scanned ed free arities (n - 1) first_byte (binders_at first_byte + d) (drop e s)
    unfolding front_answer
    behind n h = scanned-at n h ∙ bind_to _ front.is

    -- What is enough for the term is enough for a subterm.
    enough : (n l : ℕ) → length s ≤ at + n → e ≤ l → length s ≤ l + (n - 1)
    enough n l h g = let i = inside in omega arith

    pub scan_leaf : (c : Control) → subterms_at first_byte ≡ 0 → c ≡ combined first_byte passing passing → ScanIs ed free arities d s at (Ok (e, c))
    unfolding scan_answer EndWithin subterms_scanned
    scan_leaf c z q = record { is = λ n h. behind n h ∙ rw (z, q); within = inside }

    module _ (d' : ℕ) (deeper : d' ≡ d + binders_at first_byte) (some : subterms_at first_byte ≡ 0 → ⊥) where
      depth_is : binders_at first_byte + d ≡ d'
      depth_is = omega arith

      -- The first subterm's answer goes on.
      at_first : (n : ℕ) → length s ≤ at + n → scanned ed free arities n d (drop at s)
          ≡ (scanned ed free arities (n - 1) d' (drop e s) >>= λ x.
          cond (eqb (subterms_at first_byte) 1) (result (combined first_byte x.0 passing, x.1))
          (scanned ed free arities (n - 1) d' x.1 >>= λ y. result (combined first_byte x.0 y.0, y.1)))
      unfolding subterms_scanned
      at_first n h = behind n h ∙ rw (depth_is, ne_eqb (subterms_at first_byte) 0 some)

      pub scan_first_wrong : (k : Refusal) → ScanIs ed free arities d' s e (Err k) → ScanIs ed free arities d s at (Err k)
      unfolding scan_answer EndWithin
      scan_first_wrong k p = record { is = λ n h. at_first n h ∙ bind-refused _ (p.is (n - 1) (enough n e h (omega arith))); within = tt }

      module _ (l : ℕ) (p : Control) (first : ScanIs ed free arities d' s e (Ok (l, p))) where
        first-inside : (e + 1 ≤ l) × (l ≤ length s)
        unfolding EndWithin
        first-inside = first.within

        pub scan_one : (c : Control) → subterms_at first_byte ≡ 1 → c ≡ combined first_byte p passing → ScanIs ed free arities d s at (Ok (l, c))
        unfolding scan_answer EndWithin
        scan_one c o q =
            let i = inside in
            let j = first-inside in
            record {
              is = λ n h. at_first n h ∙ bind_to _ (first.is (n - 1) (enough n e h (omega arith))) ∙ rw (o, q);
              within = (omega arith, j.1);
            }

        module _ (more : subterms_at first_byte ≡ 1 → ⊥) where
          at_second : (n : ℕ) → length s ≤ at + n → scanned ed free arities n d (drop at s)
              ≡ (scanned ed free arities (n - 1) d' (drop l s) >>= λ y. result (combined first_byte p y.0, y.1))
          unfolding scan_answer
          at_second n h =
              at_first n h ∙ bind_to _ (first.is (n - 1) (enough n e h (omega arith))) ∙ rw (ne_eqb (subterms_at first_byte) 1 more)

          pub scan_second_wrong : (k : Refusal) → ScanIs ed free arities d' s l (Err k) → ScanIs ed free arities d s at (Err k)
          unfolding scan_answer EndWithin
          scan_second_wrong k q =
              let j = first-inside in
              record { is = λ n h. at_second n h ∙ bind-refused _ (q.is (n - 1) (enough n l h (omega arith))); within = tt }

          pub scan_two : (m : ℕ) (q c : Control) → ScanIs ed free arities d' s l (Ok (m, q)) → c ≡ combined first_byte p q →
              ScanIs ed free arities d s at (Ok (m, c))
          unfolding scan_answer EndWithin
          scan_two m q c second w =
              let i = inside in
              let j = first-inside in
              let k = second.within in
              record {
                is = λ n h. at_second n h ∙ bind_to _ (second.is (n - 1) (enough n l h (omega arith))) ∙ rw w;
                within = (omega arith, k.1);
              }

-- A whole body or part is a term with nothing behind it.
module _ (ed : Edition) (free : ℕ) (arities : List ℕ) (d : ℕ) (s : List ℕ) where
  whole_by_scan : scanned_whole ed free arities d s
      ≡ (scanned ed free arities (length s) d s >>= λ x. (need 7 (eqb (length x.1) 0) >> result x.0))
  unfolding scanned_whole read_whole scanned need ◌>>◌ ◌>>=◌
  whole_by_scan = go (read_term ed (numbered arities) free (length s) d s)
    where
      tested : (t : Bool) (P : Term) → ((need 7 t >> result P) >>= λ P. result (control_of P)) ≡ (need 7 t >> result (control_of P))
      tested true P = refl
      tested false P = refl

      go : (m : Answer (Term × List ℕ)) →
          ((m >>= λ x. (need 7 (eqb (length x.1) 0) >> result x.0)) >>= λ P. result (control_of P))
          ≡ ((m >>= kept) >>= λ x. (need 7 (eqb (length x.1) 0) >> result x.0))
      go (refused k) = refl
      go (result x) = tested (eqb (length x.1) 0) x.0

  pub whole_wrong : (k : Refusal) → ScanIs ed free arities d s 0 (Err k) → scanned_whole ed free arities d s ≡ whole_answer (Err k)
  unfolding scan_answer whole_answer
  whole_wrong k w = whole_by_scan ∙ bind-refused _ (w.is (length s) (omega arith))

  module _ (e : ℕ) (c : Control) (w : ScanIs ed free arities d s 0 (Ok (e, c))) where
    at_end : scanned_whole ed free arities d s ≡ (need 7 (eqb (length (drop e s)) 0) >> result c)
    unfolding scan_answer
    at_end = whole_by_scan ∙ bind_to _ (w.is (length s) (omega arith))

    pub whole-more : e < length s → scanned_whole ed free arities d s ≡ whole_answer (Err Grammar)
    unfolding whole_answer number_of need ◌>>◌
    whole-more h = at_end ∙ rw (ne_eqb (length (drop e s)) 0 (λ z. omega (arith, length-drop e s)))

    pub whole_term : length s ≤ e → scanned_whole ed free arities d s ≡ whole_answer (Ok c)
    unfolding whole_answer need ◌>>◌
    whole_term h = at_end ∙ rw (eq-eqb (length (drop e s)) 0 (omega (arith, length-drop e s)))
