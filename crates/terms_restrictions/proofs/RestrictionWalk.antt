-- What the loop finds that looks for a restriction from front to front of a term. Assumes nothing.
use mathlib.Core.Path.{◌≡◌, refl, sym, ap, subst, ◌∙◌}
use mathlib.Core.Bool.{Bool, true, false, ◌||◌}
use mathlib.Core.List.{List, [], ◌∷◌, ◌++◌, append_assoc, append-nil}
use Prim.Native.Nat.{ℕ, ◌+◌, ◌-◌, ◌<◌, ◌≤◌}
use native.Mathlib.Omega.{arith}
use lib.ListN.{length, get_or, drop, length-append, length-drop}
use lib.Seq.{drop-drop, drop-append_seam}
use lib.Dec.{eqb}
use borrow.Author.Tests.{ne_eqb}
use Rattle.calculus.specs.Term.{Term, nil, tau, inp, out, bout, mat, sum, par, res, call}
use Rattle.terms.specs.Encoding.{encode, InScope}
use Rattle.terms.proofs.ReadEncoded.{encode-some}
use Rattle.terms_bytes.specs.Shape.{binders, subterms, front_bytes, ShapeIs}
use Rattle.terms_bytes.specs.declared.shape.Shape.{Shape}
use Rattle.terms_bytes.proofs.Shapes.{encode_all, encode-parts, AllInScope, subterms_scope, front_of, length_front}
use Rattle.terms_restrictions.specs.Restrictions.{restricted_anywhere, Unrestricted, HasRestrictionIs}
use Rattle.terms_restrictions.proofs.UnusedWalk.{or_false, or_assoc, or_neither, first_byte_lem}

-- Where there is none, no subterm has one.
pub unrestricted : (P : Term) → restricted_anywhere P ≡ false → Unrestricted P
unfolding restricted_anywhere
unrestricted nil e = tt
unrestricted (tau P) e = unrestricted P e
unrestricted (inp a P) e = unrestricted P e
unrestricted (out a b P) e = unrestricted P e
unrestricted (bout a P) e = let z : ◌≡◌ {A = ℕ} 0 1 = cc in absurd (omega arith)
unrestricted (mat a b P) e = unrestricted P e
unrestricted (sum P Q) e = let n = or_neither (restricted_anywhere P) (restricted_anywhere Q) e in (unrestricted P n.0, unrestricted Q n.1)
unrestricted (par P Q) e = let n = or_neither (restricted_anywhere P) (restricted_anywhere Q) e in (unrestricted P n.0, unrestricted Q n.1)
unrestricted (res P) e = let z : ◌≡◌ {A = ℕ} 0 1 = cc in absurd (omega arith)
unrestricted (call k xs) e = tt

-- A term has one if its first byte says so, or a subterm has one.
unfoldable pub restricts : ℕ → Bool
restricts t = eqb t 8 || eqb t 4

any_restricted : List Term → Bool
any_restricted [] = false
any_restricted (P ∷ Ps) = restricted_anywhere P || any_restricted Ps

restricted-parts : (d : ℕ) (P : Term) → restricted_anywhere P ≡ restricts (get_or (encode d P) 0 0) || any_restricted (subterms P)
unfolding restricted_anywhere restricts any_restricted subterms encode
restricted-parts d nil = refl
restricted-parts d (tau P) = sym (or_false (restricted_anywhere P))
restricted-parts d (inp a P) = sym (or_false (restricted_anywhere P))
restricted-parts d (out a b P) = sym (or_false (restricted_anywhere P))
restricted-parts d (bout a P) = refl
restricted-parts d (mat a b P) = sym (or_false (restricted_anywhere P))
restricted-parts d (sum P Q) = ap (λ (b : Bool). restricted_anywhere P || b) (sym (or_false (restricted_anywhere Q)))
restricted-parts d (par P Q) = ap (λ (b : Bool). restricted_anywhere P || b) (sym (or_false (restricted_anywhere Q)))
restricted-parts d (res P) = refl
restricted-parts d (call k xs) = refl

-- Terms that are still to be looked at, each beneath so many binders.
record Ahead : Type 0 where
  depth : ℕ
  term : Term

abbrev codes : List Ahead → List ℕ
codes [] = []
codes (p ∷ ps) = encode p.depth p.term ++ codes ps

abbrev InScopes : ℕ → List ℕ → List Ahead → Type 0
InScopes free arities [] = Unit {0}
InScopes free arities (p ∷ ps) = InScope free arities p.depth p.term × InScopes free arities ps

abbrev restricted_ahead : List Ahead → Bool
restricted_ahead [] = false
restricted_ahead (p ∷ ps) = restricted_anywhere p.term || restricted_ahead ps

abbrev first : ℕ → List Term → List Ahead → List Ahead
first d [] ps = ps
first d (P ∷ Ps) ps = record { depth = d; term = P } ∷ first d Ps ps

codes-first : (d : ℕ) (Ps : List Term) (ps : List Ahead) → codes (first d Ps ps) ≡ encode_all d Ps ++ codes ps
unfolding encode_all
codes-first d [] ps = refl
codes-first d (P ∷ Ps) ps = ap (λ (l : List ℕ). encode d P ++ l) (codes-first d Ps ps) ∙ sym (append_assoc (encode d P) (encode_all d Ps) (codes ps))

scopes_first : (free : ℕ) (arities : List ℕ) (d : ℕ) (Ps : List Term) (ps : List Ahead) → AllInScope free arities d Ps → InScopes free arities ps
    → InScopes free arities (first d Ps ps)
scopes_first free arities d [] ps a s = s
scopes_first free arities d (P ∷ Ps) ps a s = (a.0, scopes_first free arities d Ps ps a.1 s)

restricted-first : (d : ℕ) (Ps : List Term) (ps : List Ahead) → restricted_ahead (first d Ps ps) ≡ any_restricted Ps || restricted_ahead ps
unfolding any_restricted
restricted-first d [] ps = refl
restricted-first d (P ∷ Ps) ps =
    ap (λ (b : Bool). restricted_anywhere P || b) (restricted-first d Ps ps) ∙ sym (or_assoc (restricted_anywhere P) (any_restricted Ps) (restricted_ahead ps))

module _ (s arities : List ℕ) where
  -- None was met before `at`.
  record LooksOn (free : ℕ) (P : Term) (at : ℕ) : Type 0 where
    ahead : List Ahead
    reads : drop at s ≡ codes ahead
    scope : InScopes free arities ahead
    same : restricted_anywhere P ≡ restricted_ahead ahead

  pub Looking : ℕ → Type 0
  Looking at = (free d : ℕ) (P : Term) → InScope free arities d P → s ≡ encode d P → LooksOn free P at

  pub looking_start : Looking 0
  unfolding Looking
  looking_start free d P i e = record {
    ahead = record { depth = d; term = P } ∷ [];
    reads = e ∙ sym (append-nil (encode d P));
    scope = (i, tt);
    same = sym (or_false (restricted_anywhere P));
  }

  pub looking_done : (at : ℕ) → length s ≤ at → Looking at → HasRestrictionIs s arities false
  unfolding Looking HasRestrictionIs
  looking_done at past L free d P i e = let l = L free d P i e in go l l.ahead refl
    where
      go : (l : LooksOn free P at) (ps : List Ahead) → l.ahead ≡ ps → false ≡ restricted_anywhere P
      go l [] q = sym (l.same ∙ ap restricted_ahead q)
      go l (p ∷ ps) q =
          absurd (omega (
            arith,
            length-drop at s,
            ap length (l.reads ∙ ap codes q),
            length-append (encode p.depth p.term) (codes ps),
            encode-some p.depth p.term,
          ))

  module _ (at : ℕ) (inside : at < length s) (L : Looking at) where
    -- the next term
    next : (C : Type 0) (free : ℕ) (P : Term) (l : LooksOn free P at)
        → ((p : Ahead) (ps : List Ahead) → InScopes free arities (p ∷ ps) → drop at s ≡ encode p.depth p.term ++ codes ps
        → restricted_anywhere P ≡ restricts (get_or s at 0) || (any_restricted (subterms p.term) || restricted_ahead ps) → C)
        → C
    next C free P l f = go l.ahead refl
      where
        go : (ps : List Ahead) → l.ahead ≡ ps → C
        go [] q = absurd (omega (arith, length-drop at s, ap length (l.reads ∙ ap codes q)))
        go (p ∷ ps) q =
            let d = p.depth in
            let Q = p.term in
            let st : drop at s ≡ encode d Q ++ codes ps = l.reads ∙ ap codes q in
            let t : get_or (encode d Q) 0 0 ≡ get_or s at 0 = sym (first_byte_lem s at arities d Q (codes ps) st) in
            f p ps (subst (InScopes free arities) q l.scope) st
            (l.same ∙ ap restricted_ahead q ∙ ap (λ (b : Bool). b || restricted_ahead ps) (restricted-parts d Q)
            ∙ ap (λ (k : ℕ). (restricts k || any_restricted (subterms Q)) || restricted_ahead ps) t
            ∙ or_assoc (restricts (get_or s at 0)) (any_restricted (subterms Q)) (restricted_ahead ps))

    pub found : (t : ℕ) → get_or s at 0 ≡ t → restricts t ≡ true → HasRestrictionIs s arities true
    unfolding Looking HasRestrictionIs
    found t e r free d P i h =
        next (true ≡ restricted_anywhere P) free P (L free d P i h)
        (λ p ps sc st same. sym (same ∙ ap (λ (b : Bool). b || (any_restricted (subterms p.term) || restricted_ahead ps)) (ap restricts e ∙ r)))

    module _ (h : Shape) (is : ShapeIs s at arities h) where
      -- the front that stands there ends within the bytes
      pub fits : length s - at < h.fixed + h.names → HasRestrictionIs s arities false
      unfolding Looking HasRestrictionIs
      fits short free d P i e =
          next (false ≡ restricted_anywhere P) free P (L free d P i e)
          (λ p ps sc st same.
          absurd (omega (
            arith,
            length_front s at arities h is p.depth p.term (front_of free arities p.depth p.term sc.0) (codes ps) st,
            length-drop at s,
            ap length st,
            length-append (encode p.depth p.term) (codes ps),
            ap length (encode-parts p.depth p.term),
            length-append (front_bytes p.depth p.term) (encode_all (binders p.term + p.depth) (subterms p.term)),
          )))

      pub looking_again : restricts (get_or s at 0) ≡ false → Looking (at + (h.fixed + h.names))
      unfolding Looking
      looking_again no_tag free d P i e =
          next (LooksOn free P (at + (h.fixed + h.names))) free P (L free d P i e)
          (λ p ps sc st same.
          let k = p.depth in
          let Q = p.term in
          let F : List ℕ = front_bytes k Q in
          let rest : List Ahead = first (binders Q + k) (subterms Q) ps in
          let n : h.fixed + h.names ≡ length F = length_front s at arities h is k Q (front_of free arities k Q sc.0) (codes ps) st in
          let st₂ : drop at s ≡ F ++ codes rest =
          st ∙ ap (λ (l : List ℕ). l ++ codes ps) (encode-parts k Q) ∙ append_assoc F (encode_all (binders Q + k) (subterms Q)) (codes ps)
          ∙ ap (λ (l : List ℕ). F ++ l) (sym (codes-first (binders Q + k) (subterms Q) ps)) in
          record {
            ahead = rest;
            reads =
                ap (λ (m : ℕ). drop (at + m) s) n ∙ sym (drop-drop (length F) at s) ∙ ap (drop (length F)) st₂ ∙ drop-append_seam F (codes rest);
            scope = scopes_first free arities (binders Q + k) (subterms Q) ps (subterms_scope free arities k Q sc.0) sc.1;
            same =
                same ∙ ap (λ (b : Bool). b || (any_restricted (subterms Q) || restricted_ahead ps)) no_tag
                ∙ sym (restricted-first (binders Q + k) (subterms Q) ps);
          })

pub no_tag : (t : ℕ) → ¬ (t ≡ 8) → ¬ (t ≡ 4) → restricts t ≡ false
unfolding restricts
no_tag t a b = rw (ne_eqb t 8 a, ne_eqb t 4 b)
