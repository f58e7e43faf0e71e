-- A term copied from front to front is the term in the other edition.
use mathlib.Core.Path.{◌≡◌, refl, sym, ap, ap₂, subst, ◌∙◌}
use mathlib.Core.Bool.{Bool}
use mathlib.Core.List.{List, [], ◌∷◌, ◌++◌, append_assoc, append-nil}
use Prim.Native.Nat.{ℕ, ◌+◌, ◌<◌, ◌≤◌}
use native.Mathlib.Nat.{zero-add}
use native.Mathlib.Omega.{arith}
use lib.ListN.{length, drop, length-append, length-drop}
use lib.Seq.{sets, drop-drop, drop-append_seam}
use Rattle.calculus.specs.Term.{Term, nil, tau, inp, out, bout, mat, sum, par, res, call}
use Rattle.terms.specs.Encoding.{InScope}
use Rattle.terms_bytes.specs.Shape.{fixed_bytes, own_names, binders, subterms}
use Rattle.terms_bytes.proofs.Shapes.{AllInScope, subterms_scope}
use Rattle.terms_bytes.proofs.Stores.{sets-join}
use Rattle.terms.specs.Edition.{Edition, other, encode_in}
use Rattle.terms.proofs.ReadEncoded.{encode_some_in}
use Rattle.terms_bytes.specs.Counted.{edition_from}
use Rattle.terms_converting.specs.Converting.{count_of, front_in, ConvertsFront, ConvertsTerm}
use Rattle.terms_converting.specs.declared.term.Copied.{Copied}

unfoldable pub encode_all_in : Edition → ℕ → List Term → List ℕ
encode_all_in e d [] = []
encode_all_in e d (P ∷ Ps) = encode_in e d P ++ encode_all_in e d Ps

-- A term is its front and its subterms.
pub parts_in : (e : Edition) (d : ℕ) (P : Term) → encode_in e d P ≡ front_in e d P ++ encode_all_in e (binders P + d) (subterms P)
unfolding encode_in front_in count_of fixed_bytes own_names binders subterms encode_all_in
parts_in e d nil = refl
parts_in e d (tau P) = rw (zero-add, append-nil)
parts_in e d (inp a P) = rw append-nil
parts_in e d (out a b P) = rw (zero-add, append-nil)
parts_in e d (bout a P) = rw append-nil
parts_in e d (mat a b P) = rw (zero-add, append-nil)
parts_in e d (sum P Q) = rw (zero-add, append-nil)
parts_in e d (par P Q) = rw (zero-add, append-nil)
parts_in e d (res P) = rw append-nil
parts_in e d (call k ns) = rw append-nil

-- Terms that are still to be copied, each beneath so many binders.
pub record Pending : Type 0 where
  pub depth : ℕ
  pub term : Term

abbrev pub codes : Edition → List Pending → List ℕ
codes e [] = []
codes e (p ∷ ps) = encode_in e p.depth p.term ++ codes e ps

abbrev pub InScopes : ℕ → List ℕ → List Pending → Type 0
InScopes free arities [] = Unit {0}
InScopes free arities (p ∷ ps) = InScope free arities p.depth p.term × InScopes free arities ps

abbrev pub first : ℕ → List Term → List Pending → List Pending
first d [] ps = ps
first d (P ∷ Ps) ps = record { depth = d; term = P } ∷ first d Ps ps

codes-first : (e : Edition) (d : ℕ) (Ps : List Term) (ps : List Pending) → codes e (first d Ps ps) ≡ encode_all_in e d Ps ++ codes e ps
unfolding encode_all_in
codes-first e d [] ps = refl
codes-first e d (P ∷ Ps) ps =
    ap (λ (l : List ℕ). encode_in e d P ++ l) (codes-first e d Ps ps) ∙ sym (append_assoc (encode_in e d P) (encode_all_in e d Ps) (codes e ps))

scopes_first : (free : ℕ) (arities : List ℕ) (d : ℕ) (Ps : List Term) (ps : List Pending) → AllInScope free arities d Ps → InScopes free arities ps →
    InScopes free arities (first d Ps ps)
scopes_first free arities d [] ps a s = s
scopes_first free arities d (P ∷ Ps) ps a s = (a.0, scopes_first free arities d Ps ps a.1 s)

-- the next term's front taken off
codes-front : (e : Edition) (p : Pending) (ps : List Pending) →
    codes e (p ∷ ps) ≡ front_in e p.depth p.term ++ codes e (first (binders p.term + p.depth) (subterms p.term) ps)
codes-front e p ps =
    ap (λ (l : List ℕ). l ++ codes e ps) (parts_in e p.depth p.term)
    ∙ append_assoc (front_in e p.depth p.term) (encode_all_in e (binders p.term + p.depth) (subterms p.term)) (codes e ps)
    ∙ ap (λ (l : List ℕ). front_in e p.depth p.term ++ l) (sym (codes-first e (binders p.term + p.depth) (subterms p.term) ps))

module _ (src arities : List ℕ) (counted : Bool) (out₀ : List ℕ) (put : ℕ) where
  abbrev e : Edition
  e = edition_from counted

  abbrev e' : Edition
  e' = other (edition_from counted)

  -- Copied up to `at`.
  pub record Passed (free d : ℕ) (A : Term) (area : List ℕ) (at to : ℕ) : Type 0 where
    pub todo : List Pending
    pub wrote : List ℕ
    pub reads : drop at src ≡ codes (edition_from counted) todo
    pub scope : InScopes free arities todo
    pub target : to ≡ put + length wrote
    pub stored : area ≡ sets out₀ put wrote
    pub whole : encode_in (other (edition_from counted)) d A ≡ wrote ++ codes (other (edition_from counted)) todo

  unfoldable pub Converting : List ℕ → ℕ → ℕ → Type 0
  Converting area at to =
      (free d : ℕ) (A : Term) → InScope free arities d A → src ≡ encode_in (edition_from counted) d A
      → put + length (encode_in (other (edition_from counted)) d A) ≤ length out₀ → Passed free d A area at to

  pub converting_start : Converting out₀ 0 put
  unfolding Converting
  converting_start free d A s h room = record {
    todo = record { depth = d; term = A } ∷ [];
    wrote = [];
    reads = h ∙ sym (append-nil (encode_in e d A));
    scope = (s, tt);
    target = omega arith;
    stored = refl;
    whole = sym (append-nil (encode_in e' d A));
  }

  module _ (area : List ℕ) (at to : ℕ) (same : length area ≡ length out₀) (C : Converting area at to) where
    step : (free d : ℕ) (A : Term) → put + length (encode_in e' d A) ≤ length out₀ → at < length src → (r : Copied) (out₁ : List ℕ) →
        ConvertsFront src at arities counted area to r out₁ → (S : Passed free d A area at to) → (ts : List Pending) → S.todo ≡ ts → Passed free d A out₁ r.at r.to
    step free d A room inside r out₁ F S [] q =
        absurd (omega (arith, length-drop at src, ap length (S.reads ∙ ap (codes e) q)))
    step free d A room inside r out₁ F S (p ∷ ps) q =
        let P = p.term in
        let k = p.depth in
        let sc : InScopes free arities (p ∷ ps) = subst (InScopes free arities) q S.scope in
        let st : drop at src ≡ encode_in e k P ++ codes e ps = S.reads ∙ ap (codes e) q in
        let w : encode_in e' d A ≡ S.wrote ++ (encode_in e' k P ++ codes e' ps) = S.whole ∙ ap (λ (l : List Pending). S.wrote ++ codes e' l) q in
        let l₁ = ap length w in
        let l₂ = length-append S.wrote (encode_in e' k P ++ codes e' ps) in
        let l₃ = length-append (encode_in e' k P) (codes e' ps) in
        let t = S.target in
        let y = F.is free k P (codes e ps) sc.0 st (omega arith) in
        let F₁ = front_in e k P in
        let F₂ = front_in e' k P in
        let next = first (binders P + k) (subterms P) ps in
        let st₂ : drop at src ≡ F₁ ++ codes e next = st ∙ codes-front e p ps in
        record {
          todo = next;
          wrote = S.wrote ++ F₂;
          reads = ap (λ (n : ℕ). drop n src) y.0 ∙ sym (drop-drop (length F₁) at src) ∙ ap (drop (length F₁)) st₂ ∙ drop-append_seam F₁ (codes e next);
          scope = scopes_first free arities (binders P + k) (subterms P) ps (subterms_scope free arities k P sc.0) sc.1;
          target = let a = length-append S.wrote F₂ in let b = y.1 in omega arith;
          stored =
              y.2 ∙ ap₂ (λ (l : List ℕ) (n : ℕ). sets l n F₂) S.stored t
              ∙ sets-join out₀ put (put + length S.wrote) S.wrote F₂ refl;
          whole =
              w ∙ ap (λ (l : List ℕ). S.wrote ++ l) (codes-front e' p ps) ∙ sym (append_assoc S.wrote F₂ (codes e' next));
        }

    pub converting_again : at < length src → (r : Copied) (out₁ : List ℕ) → ConvertsFront src at arities counted area to r out₁ → Converting out₁ r.at r.to
    unfolding Converting
    converting_again inside r out₁ F free d A s h room =
        let S = C free d A s h room in
        step free d A room inside r out₁ F S S.todo refl

    ended : (free d : ℕ) (A : Term) (S : Passed free d A area at to) → length src ≤ at → (ts : List Pending) → S.todo ≡ ts →
        (to ≡ put + length (encode_in e' d A)) × (area ≡ sets out₀ put (encode_in e' d A))
    ended free d A S past [] q =
        let w : encode_in e' d A ≡ S.wrote = S.whole ∙ ap (λ (l : List Pending). S.wrote ++ codes e' l) q ∙ append-nil S.wrote in
        (S.target ∙ ap (λ (l : List ℕ). put + length l) (sym w), S.stored ∙ ap (sets out₀ put) (sym w))
    ended free d A S past (p ∷ ps) q =
        absurd (omega (
          arith,
          length-drop at src,
          ap length (S.reads ∙ ap (codes e) q),
          length-append (encode_in e p.depth p.term) (codes e ps),
          encode_some_in e p.depth p.term,
        ))

    pub converting_done : length src ≤ at → ConvertsTerm src arities counted out₀ put to area
    unfolding Converting
    converting_done past = record { is = λ free d A s h room. let S = C free d A s h room in ended free d A S past S.todo refl }
