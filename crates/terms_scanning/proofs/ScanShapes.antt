-- Reading a term by the shape that its first byte gives it: its front, then no, one or two subterms. So the walk needs no case for each constructor.
use mathlib.Core.Path.{◌≡◌, refl, ap}
use mathlib.Core.Bool.{cond}
use mathlib.Core.List.{List, [], ◌∷◌}
use Prim.Native.Nat.{ℕ, zero, suc, ◌+◌}
use native.Mathlib.Nat.{zero-add}
use native.Mathlib.Omega.{arith}
use lib.Dec.{eqb}
use borrow.Author.Tests.{lt-leb}
use Rattle.calculus.specs.Term.{Term, tau, inp, out, bout, mat, sum, par, res, call}
use Rattle.terms.specs.Edition.{Edition}
use Rattle.terms.specs.Answer.{Answer, refused, result, ◌>>=◌, ◌>>◌, need}
use Rattle.terms.specs.Reading.{byte, read_name, read_names, tag_of, numbered, read_count, read_term}
use Rattle.terms_scanning.specs.Scanning.{behind_names, behind_call, behind_front, control_of, passing, combined, scanned}
use Rattle.terms_bytes.specs.Shape.{names_at, binders_at, subterms_at}
use Rattle.terms_scanning.specs.declared.scan.Control.{Control}
use Rattle.terms_scanning.proofs.ControlLaws.{control_nil, control_tau, control_inp, control_out, control_bout, control_mat, control_sum, control_par, control_res, control_call}

-- The subterms under d binders of a term that begins with t.
module _ (ed : Edition) (free : ℕ) (arities : List ℕ) where
  unfoldable pub subterms_scanned : ℕ → ℕ → ℕ → List ℕ → Answer (Control × List ℕ)
  subterms_scanned n t d bs =
      cond (eqb (subterms_at t) 0) (result (combined t passing passing, bs))
      (scanned ed free arities n d bs >>= λ x.
      cond (eqb (subterms_at t) 1) (result (combined t x.0 passing, x.1))
      (scanned ed free arities n d x.1 >>= λ y. result (combined t x.0 y.0, y.1)))

-- One lemma for each shape, over the answers of reading its pieces: what is kept of the term is found from what is kept of its subterms.
abbrev pub kept : Term × List ℕ → Answer (Control × List ℕ)
kept x = result (control_of x.0, x.1)

one_term : (c : Term → Term) (f : Control → Control) → ((P : Term) → control_of (c P) ≡ f (control_of P)) → (m : Answer (Term × List ℕ)) →
    ((m >>= λ x. result (c x.0, x.1)) >>= kept) ≡ ((m >>= kept) >>= λ x. result (f x.0, x.1))
unfolding ◌>>=◌
one_term c f h (refused k) = refl
one_term c f h (result x) = ap (λ y. result (y, x.1)) (h x.0)

two_terms : (c : Term → Term → Term) (f : Control → Control → Control) → ((P Q : Term) → control_of (c P Q) ≡ f (control_of P) (control_of Q)) →
    (m : Answer (Term × List ℕ)) (g : List ℕ → Answer (Term × List ℕ)) →
    ((m >>= λ x. (g x.1 >>= λ y. result (c x.0 y.0, y.1))) >>= kept)
    ≡ ((m >>= kept) >>= λ x. ((g x.1 >>= kept) >>= λ y. result (f x.0 y.0, y.1)))
unfolding ◌>>=◌
two_terms c f h (refused k) g = refl
two_terms c f h (result x) g = one_term (c x.0) (f (control_of x.0)) (h x.0) (g x.1)

-- Names as they are read: one, and one before others.
abbrev single : ℕ × List ℕ → Answer (List ℕ × List ℕ)
single a = result (a.0 ∷ [], a.1)

abbrev before : ℕ → List ℕ × List ℕ → Answer (List ℕ × List ℕ)
before a ns = result (a ∷ ns.0, ns.1)

abbrev rest : List ℕ × List ℕ → Answer (List ℕ)
rest ns = result ns.1

-- Names before a subterm, where r reads it and keeps what is kept of the whole.
module _ (free d : ℕ) where
  one_name : (g : ℕ → List ℕ → Answer (Term × List ℕ)) (r : List ℕ → Answer (Control × List ℕ)) → ((a : ℕ) (bs : List ℕ) → (g a bs >>= kept) ≡ r bs) →
      (bs : List ℕ) → ((read_name free d bs >>= λ a. g a.0 a.1) >>= kept) ≡ (behind_names free d 1 bs >>= r)
  unfolding behind_names read_names ◌>>=◌
  one_name g r h bs = go (read_name free d bs)
    where
      go : (m : Answer (ℕ × List ℕ)) → ((m >>= λ a. g a.0 a.1) >>= kept) ≡ (((m >>= single) >>= rest) >>= r)
      go (refused k) = refl
      go (result a) = h a.0 a.1

  two_names : (g : ℕ → ℕ → List ℕ → Answer (Term × List ℕ)) (r : List ℕ → Answer (Control × List ℕ)) →
      ((a b : ℕ) (bs : List ℕ) → (g a b bs >>= kept) ≡ r bs) → (bs : List ℕ) →
      ((read_name free d bs >>= λ a. (read_name free d a.1 >>= λ b. g a.0 b.0 b.1)) >>= kept) ≡ (behind_names free d 2 bs >>= r)
  unfolding behind_names read_names ◌>>=◌
  two_names g r h bs = first (read_name free d bs)
    where
      second : (a : ℕ) (m : Answer (ℕ × List ℕ)) → ((m >>= λ b. g a b.0 b.1) >>= kept)
          ≡ ((((m >>= single) >>= before a) >>= rest) >>= r)
      second a (refused k) = refl
      second a (result b) = h a b.0 b.1

      first : (m : Answer (ℕ × List ℕ)) → ((m >>= λ a. (read_name free d a.1 >>= λ b. g a.0 b.0 b.1)) >>= kept)
          ≡ (((m >>= λ a. ((read_name free d a.1 >>= single) >>= before a.0)) >>= rest) >>= r)
      first (refused k) = refl
      first (result a) = second a.0 (read_name free d a.1)

-- A call: its number, in edition two the number of its names, and these.
module _ (free d k : ℕ) where
  called : ℕ → List ℕ → Answer (Term × List ℕ)
  called m bs = read_names free d m bs >>= λ x. result (call k x.0, x.1)

  named : (m : Answer (List ℕ × List ℕ)) → ((m >>= λ x. result (call k x.0, x.1)) >>= kept)
      ≡ ((m >>= rest) >>= λ bs. result (combined 9 passing passing, bs))
  unfolding ◌>>=◌
  named (refused j) = refl
  named (result x) = ap (λ y. result (y, x.1)) (control_call k x.0)

  one_call : (c : Answer ℕ) (f : ℕ → Answer (List ℕ)) → ((c >>= λ m. (f m >>= called m)) >>= kept)
      ≡ ((c >>= λ m. (f m >>= behind_names free d m)) >>= λ bs. result (combined 9 passing passing, bs))
  unfolding called behind_names ◌>>=◌
  one_call (refused j) f = refl
  one_call (result m) f = go (f m)
    where
      go : (r : Answer (List ℕ)) → ((r >>= called m) >>= kept) ≡ ((r >>= behind_names free d m) >>= λ bs. result (combined 9 passing passing, bs))
      go (refused j) = refl
      go (result bs) = named (read_names free d m bs)

module _ (ed : Edition) (free : ℕ) (arities : List ℕ) (n d : ℕ) where
  pub scanned_by_shape : (t : ℕ) (bs : List ℕ) → scanned ed free arities (suc n) d (t ∷ bs)
      ≡ (behind_front ed free arities d (t ∷ bs) >>= subterms_scanned ed free arities n t (binders_at t + d))
  unfolding called scanned read_term byte tag_of behind_names read_names behind_front behind_call names_at binders_at subterms_at subterms_scanned need ◌>>◌ ◌>>=◌
  scanned_by_shape zero bs = ap (λ c. result (c, bs)) control_nil
  scanned_by_shape (suc zero) bs = rw zero-add (one_term tau (λ p. combined 1 p passing) control_tau (read_term ed (numbered arities) free n d bs))
  scanned_by_shape (suc (suc zero)) bs =
      one_name free d (λ a bs. (read_term ed (numbered arities) free n (1 + d) bs >>= λ x. result (inp a x.0, x.1))) (subterms_scanned ed free arities n 2 (1 + d))
      (λ a bs. one_term (inp a) (λ p. combined 2 p passing) (control_inp a) (read_term ed (numbered arities) free n (1 + d) bs)) bs
  scanned_by_shape (suc (suc (suc zero))) bs =
      rw
      zero-add
      (two_names free d (λ a b bs. (read_term ed (numbered arities) free n d bs >>= λ x. result (out a b x.0, x.1))) (subterms_scanned ed free arities n 3 d)
      (λ a b bs. one_term (out a b) (λ p. combined 3 p passing) (control_out a b) (read_term ed (numbered arities) free n d bs)) bs)
  scanned_by_shape (suc (suc (suc (suc zero)))) bs =
      one_name free d (λ a bs. (read_term ed (numbered arities) free n (1 + d) bs >>= λ x. result (bout a x.0, x.1))) (subterms_scanned ed free arities n 4 (1 + d))
      (λ a bs. one_term (bout a) (λ p. combined 4 p passing) (control_bout a) (read_term ed (numbered arities) free n (1 + d) bs)) bs
  scanned_by_shape (suc (suc (suc (suc (suc zero))))) bs =
      rw
      zero-add
      (two_names free d (λ a b bs. (read_term ed (numbered arities) free n d bs >>= λ x. result (mat a b x.0, x.1))) (subterms_scanned ed free arities n 5 d)
      (λ a b bs. one_term (mat a b) (λ p. combined 5 p passing) (control_mat a b) (read_term ed (numbered arities) free n d bs)) bs)
  scanned_by_shape (suc (suc (suc (suc (suc (suc zero)))))) bs = rw zero-add (two_terms sum (combined 6) control_sum (read_term ed (numbered arities) free n d bs) (read_term ed (numbered arities) free n d))
  scanned_by_shape (suc (suc (suc (suc (suc (suc (suc zero))))))) bs = rw zero-add (two_terms par (combined 7) control_par (read_term ed (numbered arities) free n d bs) (read_term ed (numbered arities) free n d))
  scanned_by_shape (suc (suc (suc (suc (suc (suc (suc (suc zero)))))))) bs = one_term res (λ p. combined 8 p passing) control_res (read_term ed (numbered arities) free n (1 + d) bs)
  scanned_by_shape (suc (suc (suc (suc (suc (suc (suc (suc (suc zero))))))))) [] = refl
  scanned_by_shape (suc (suc (suc (suc (suc (suc (suc (suc (suc zero))))))))) (k ∷ bs) = one_call free d k (numbered arities k) (λ m. read_count ed m bs)
  scanned_by_shape (suc (suc (suc (suc (suc (suc (suc (suc (suc (suc t)))))))))) bs = rw (lt-leb (suc (suc (suc (suc (suc (suc (suc (suc (suc (suc t)))))))))) 9 (omega arith))
