-- What the renaming walk writes at each of its places is the renamed term. Assumes nothing.
use mathlib.Core.Path.{◌≡◌, refl, sym, ap, ap₂, subst, ◌∙◌}
use mathlib.Core.List.{List, [], ◌∷◌, ◌++◌, map, append_assoc, append-nil}
use Prim.Native.Nat.{ℕ, suc, ◌+◌, ◌-◌, ◌<◌, ◌≤◌}
use native.Mathlib.Omega.{arith}
use lib.ListN.{length, drop, length-append, length-drop}
use lib.Seq.{sets, length-sets, drop-drop, drop-append_seam}
use Rattle.calculus.specs.Term.{Term, ren}
use Rattle.terms_bytes.specs.NameTable.{table_names}
use Rattle.terms.specs.Encoding.{name_byte, encode, InScope}
use Rattle.terms_bytes.specs.NameTable.{renamed_byte, RepresentsBeneath}
use Rattle.terms_bytes.specs.Shape.{fixed_bytes, own_names, binders, subterms, height, front_bytes, ShapeIs}
use Rattle.terms_renaming.specs.Renaming.{RenameIs, RenamedFront, NoTerm, RenamedBeneath}
use Rattle.terms_bytes.specs.declared.shape.Shape.{Shape}
use Rattle.terms_bytes.specs.declared.shape.Front.{Front}
use Rattle.terms_bytes.proofs.Stores.{span, sets-join}
use Rattle.terms_bytes.proofs.Heights.{height_one, height_two}
use Rattle.terms_bytes.proofs.NameTables.{lift_by, renamed-names, represents_under, represents_whole}
use Rattle.terms_bytes.proofs.Shapes.{encode_all, encode-parts, front-ren, encode-ren, length-front-ren, front_of, AllInScope, names_scope, subterms_scope, shape_fixed, shape_binds, shape_parts, span_fixed, span-names, length_front, front-inside, front-some, at_most_two}
use Rattle.terms.proofs.RenamingKeeps.{length-ren}

length-parts : (d : ℕ) (P : Term) → length (encode d P) ≡ length (front_bytes d P) + length (encode_all (binders P + d) (subterms P))
length-parts d P = ap length (encode-parts d P) ∙ length-append (front_bytes d P) (encode_all (binders P + d) (subterms P))

pub none-past : (s : List ℕ) (at : ℕ) (arities out : List ℕ) (put : ℕ) → length s ≤ at → NoTerm s at arities out put
none-past s at arities out put past free d P rest scope e room =
    omega (arith, front-some arities d P (front_of free arities d P scope), length-parts d P, simp (length-append, length-drop) at (ap length e))

pub none_short : (s : List ℕ) (at : ℕ) (arities out : List ℕ) (put : ℕ) (h : Shape) → ShapeIs s at arities h → at < length s
    → length s < at + (h.fixed + h.names) → NoTerm s at arities out put
none_short s at arities out put h is lt short free d P rest scope e room =
    omega (arith, front-inside s at arities h is d P (front_of free arities d P scope) rest e lt)

pub none_full : (s : List ℕ) (at : ℕ) (arities out : List ℕ) (put : ℕ) (h : Shape) → ShapeIs s at arities h
    → length out < put + (h.fixed + h.names) → NoTerm s at arities out put
none_full s at arities out put h is short free d P rest scope e room =
    omega (arith, length_front s at arities h is d P (front_of free arities d P scope) rest e, length-parts d P)

pub front-renamed : (s : List ℕ) (at : ℕ) (arities : List ℕ) (inner : ℕ) (table out : List ℕ) (put : ℕ) (h : Shape) (out₁ out₂ : List ℕ)
    → ShapeIs s at arities h
    → at + (h.fixed + h.names) ≤ length s
    → put + (h.fixed + h.names) ≤ length out
    → out₁ ≡ sets out put (span s at h.fixed)
    → out₂ ≡ sets out₁ (put + h.fixed) (map (renamed_byte inner table) (span s (at + h.fixed) h.names))
    → RenamedFront s at arities inner table out put (record { len = h.fixed + h.names; binds = h.binds; subterms = h.subterms }) out₂
front-renamed s at arities inner table out put h out₁ out₂ is fs fo w₁ w₂ = record {
  inside = omega arith;
  room = omega arith;
  step = omega (arith, is.some);
  binds = omega (arith, is.some, is.one);
  is = λ free d d' ρ P rest few rep scope e room.
      let f = front_of free arities d P scope in (
        length_front s at arities h is d P f rest e,
        shape_binds s at arities h is d P f rest e,
        shape_parts s at arities h is d P f rest e,
        w₂ ∙ rw (
          w₁,
          span_fixed s at arities h is d P f rest e,
          span-names s at arities h is d P f rest e,
          renamed-names inner free d d' table ρ few rep (own_names P) (names_scope free arities d P scope),
          front-ren,
        )
            (sets-join out put (put + h.fixed) (fixed_bytes P) (map (name_byte d') (map ρ (own_names P)))
            (ap (λ (k : ℕ). put + k) (shape_fixed s at arities h is d P f rest e))),
      );
}

-- A subterm that is renamed behind what is written already: F was read, F' is written.
module _ (s : List ℕ) (at : ℕ) (arities table out : List ℕ) (put inner free d d' : ℕ) (ρ : ℕ → ℕ) (few : free ≤ table_names)
    (rep : RepresentsBeneath inner free d d' table ρ) where
  subterm : (F F' : List ℕ) (P : Term) (rest : List ℕ) (e : ℕ) (out₂ : List ℕ)
      → length F' ≡ length F
      → InScope free arities d P
      → drop at s ≡ F ++ (encode d P ++ rest)
      → d' + height P ≤ 128
      → put + (length F + length (encode d P)) ≤ length out
      → RenamedBeneath s (at + length F) arities inner table (sets out put F') (put + length F) e out₂
      → (e ≡ at + (length F + length (encode d P))) × (out₂ ≡ sets out put (F' ++ encode d' (ren ρ P)))
  unfolding RenamedBeneath
  subterm F F' P rest e out₂ same scope st deep room R =
      let st₁ : drop (at + length F) s ≡ encode d P ++ rest = rw (← drop-drop, st, drop-append_seam) in
      let y = R free d d' ρ P rest few rep scope st₁ deep (omega (arith, length-sets out put F')) in (
        omega (arith, y.0),
        y.1 ∙ sets-join out put (put + length F) F' (encode d' (ren ρ P)) (ap (λ (k : ℕ). put + k) (sym same)),
      )

-- The bytes of a term whose subterms are known, and of the renamed term.
bytes-none : (d : ℕ) (P : Term) → subterms P ≡ [] → encode d P ≡ front_bytes d P
unfolding encode_all
bytes-none d P e = encode-parts d P ∙ rw (e, append-nil)

bytes_one : (d : ℕ) (P Q : Term) → subterms P ≡ Q ∷ [] → encode d P ≡ front_bytes d P ++ encode (binders P + d) Q
unfolding encode_all
bytes_one d P Q e = encode-parts d P ∙ rw (e, append-nil)

bytes_two : (d : ℕ) (P Q R : Term) → subterms P ≡ Q ∷ R ∷ [] → encode d P ≡ front_bytes d P ++ (encode (binders P + d) Q ++ encode (binders P + d) R)
unfolding encode_all
bytes_two d P Q R e = encode-parts d P ∙ rw (e, append-nil)

ren-none : (d : ℕ) (ρ : ℕ → ℕ) (P : Term) → subterms P ≡ [] → encode d (ren ρ P) ≡ front_bytes d (ren ρ P)
unfolding encode_all
ren-none d ρ P e = encode-ren d ρ P ∙ rw (e, append-nil)

ren_one : (d : ℕ) (ρ : ℕ → ℕ) (P Q : Term) → subterms P ≡ Q ∷ []
    → encode d (ren ρ P) ≡ front_bytes d (ren ρ P) ++ encode (binders P + d) (ren (lift_by (binders P) ρ) Q)
unfolding encode_all
ren_one d ρ P Q e = encode-ren d ρ P ∙ rw (e, append-nil)

ren_two : (d : ℕ) (ρ : ℕ → ℕ) (P Q R : Term) → subterms P ≡ Q ∷ R ∷ []
    → encode d (ren ρ P)
    ≡ front_bytes d (ren ρ P) ++ (encode (binders P + d) (ren (lift_by (binders P) ρ) Q) ++ encode (binders P + d) (ren (lift_by (binders P) ρ) R))
unfolding encode_all
ren_two d ρ P Q R e = encode-ren d ρ P ∙ rw (e, append-nil)

-- The walk of a term whose front is renamed: h is what the front's renaming answered.
module _ (s : List ℕ) (at : ℕ) (arities : List ℕ) (inner : ℕ) (table out : List ℕ) (put : ℕ) (h : Front) (out₁ : List ℕ)
    (F : RenamedFront s at arities inner table out put h out₁) where
  pub renamed-none : h.subterms ≡ 0 → RenamedBeneath s at arities inner table out put (at + h.len) out₁
  unfolding RenamedBeneath
  renamed-none z free d d' ρ P rest few rep scope st deep room = go (subterms P) refl
    where
      x : (h.len ≡ length (front_bytes d P)) × (h.binds ≡ binders P) × (h.subterms ≡ length (subterms P)) × (out₁ ≡ sets out put (front_bytes d' (ren ρ P)))
      x = F.is free d d' ρ P rest few rep scope st room

      go : (Ps : List Term) → subterms P ≡ Ps → (at + h.len ≡ at + length (encode d P)) × (out₁ ≡ sets out put (encode d' (ren ρ P)))
      go [] e = (omega (arith, x.0, ap length (bytes-none d P e)), x.3 ∙ ap (sets out put) (sym (ren-none d' ρ P e)))
      go (Q ∷ Qs) e = let n : length (subterms P) ≡ suc (length Qs) = ap length e in absurd (omega (arith, x.2))

  module _ (e : ℕ) (out₂ : List ℕ) (R : RenamedBeneath s (at + h.len) arities (inner + h.binds) table out₁ (put + h.len) e out₂) where
    pub renamed_one : h.subterms ≡ 1 → RenamedBeneath s at arities inner table out put e out₂
    unfolding RenamedBeneath
    renamed_one z free d d' ρ P rest few rep scope st deep room = go (subterms P) refl
      where
        x : (h.len ≡ length (front_bytes d P)) × (h.binds ≡ binders P) × (h.subterms ≡ length (subterms P)) × (out₁ ≡ sets out put (front_bytes d' (ren ρ P)))
        x = F.is free d d' ρ P rest few rep scope st room

        go : (Ps : List Term) → subterms P ≡ Ps → (e ≡ at + length (encode d P)) × (out₂ ≡ sets out put (encode d' (ren ρ P)))
        go [] q = let n : length (subterms P) ≡ 0 = ap length q in absurd (omega (arith, x.2))
        go (Q ∷ []) q =
            let b = binders P in
            let G = front_bytes d P in
            let G' = front_bytes d' (ren ρ P) in
            let l : length (encode d P) ≡ length G + length (encode (b + d) Q) = ap length (bytes_one d P Q q) ∙ length-append G (encode (b + d) Q) in
            let t = height_one P Q q in
            let R' : RenamedBeneath s (at + length G) arities (inner + b) table (sets out put G') (put + length G) e out₂ = rw (← x.0, ← x.1, ← x.3) R in
            let y = subterm s at arities table out put (inner + b) free (b + d) (b + d') (lift_by b ρ) few
            (represents_under b inner free d d' table ρ few (omega (arith, t)) rep) G G' Q rest e out₂ (length-front-ren d d' ρ P)
            (subst (AllInScope free arities (b + d)) q (subterms_scope free arities d P scope)).0
            (st ∙ ap (λ (l : List ℕ). l ++ rest) (bytes_one d P Q q) ∙ append_assoc G (encode (b + d) Q) rest)
            (omega (arith, t)) (omega arith) R' in
            (omega (arith, y.0), y.1 ∙ ap (sets out put) (sym (ren_one d' ρ P Q q)))
        go (Q ∷ Q₂ ∷ Qs) q = let n : length (subterms P) ≡ suc (suc (length Qs)) = ap length q in absurd (omega (arith, x.2))

    pub renamed_two : (h.subterms ≡ 0 → ⊥) → (h.subterms ≡ 1 → ⊥) → (r : ℕ) (out₃ : List ℕ)
        → RenamedBeneath s e arities (inner + h.binds) table out₂ (put + (e - at)) r out₃ → RenamedBeneath s at arities inner table out put r out₃
    unfolding RenamedBeneath
    renamed_two z o r out₃ S free d d' ρ P rest few rep scope st deep room = go (subterms P) refl
      where
        x : (h.len ≡ length (front_bytes d P)) × (h.binds ≡ binders P) × (h.subterms ≡ length (subterms P)) × (out₁ ≡ sets out put (front_bytes d' (ren ρ P)))
        x = F.is free d d' ρ P rest few rep scope st room

        go : (Ps : List Term) → subterms P ≡ Ps → (r ≡ at + length (encode d P)) × (out₃ ≡ sets out put (encode d' (ren ρ P)))
        go [] q = absurd (z (x.2 ∙ ap length q))
        go (Q ∷ []) q = absurd (o (x.2 ∙ ap length q))
        go (Q₁ ∷ Q₂ ∷ []) q =
            let b = binders P in
            let G = front_bytes d P in
            let G' = front_bytes d' (ren ρ P) in
            let E₁ = encode (b + d) Q₁ in
            let E₂ = encode (b + d) Q₂ in
            let E₁' = encode (b + d') (ren (lift_by b ρ) Q₁) in
            let E₂' = encode (b + d') (ren (lift_by b ρ) Q₂) in
            let l : length (encode d P) ≡ length G + (length E₁ + length E₂) =
            ap length (bytes_two d P Q₁ Q₂ q) ∙ length-append G (E₁ ++ E₂) ∙ ap (λ (k : ℕ). length G + k) (length-append E₁ E₂) in
            let lG : length (G ++ E₁) ≡ length G + length E₁ = length-append G E₁ in
            let st₁ : drop at s ≡ G ++ (E₁ ++ (E₂ ++ rest)) =
            st ∙ ap (λ (l : List ℕ). l ++ rest) (bytes_two d P Q₁ Q₂ q) ∙ append_assoc G (E₁ ++ E₂) rest
            ∙ ap (λ (l : List ℕ). G ++ l) (append_assoc E₁ E₂ rest) in
            let st₂ : drop at s ≡ (G ++ E₁) ++ (E₂ ++ rest) = st₁ ∙ sym (append_assoc G E₁ (E₂ ++ rest)) in
            let sc = subst (AllInScope free arities (b + d)) q (subterms_scope free arities d P scope) in
            let t = height_two P Q₁ Q₂ q in
            let rep' = represents_under b inner free d d' table ρ few (omega (arith, t)) rep in
            let R' : RenamedBeneath s (at + length G) arities (inner + b) table (sets out put G') (put + length G) e out₂ = rw (← x.0, ← x.1, ← x.3) R in
            let y = subterm s at arities table out put (inner + b) free (b + d) (b + d') (lift_by b ρ) few rep' G G' Q₁ (E₂ ++ rest) e out₂
            (length-front-ren d d' ρ P) sc.0 st₁ (omega (arith, t)) (omega arith) R' in
            let ee : e ≡ at + length (G ++ E₁) = omega (arith, y.0) in
            let ep : put + (e - at) ≡ put + length (G ++ E₁) = omega (arith, y.0) in
            let S' : RenamedBeneath s (at + length (G ++ E₁)) arities (inner + b) table (sets out put (G' ++ E₁')) (put + length (G ++ E₁)) r out₃ =
            rw (← y.1, ← ep, ← ee, ← x.1) S in
            let same : length (G' ++ E₁') ≡ length (G ++ E₁) =
            length-append G' E₁' ∙ ap₂ ◌+◌ (length-front-ren d d' ρ P) (length-ren (b + d) (b + d') (lift_by b ρ) Q₁) ∙ sym lG in
            let w = subterm s at arities table out put (inner + b) free (b + d) (b + d') (lift_by b ρ) few rep' (G ++ E₁) (G' ++ E₁') Q₂ rest r out₃
            same sc.1.0 st₂ (omega (arith, t)) (omega arith) S' in
            (omega (arith, w.0), w.1 ∙ ap (sets out put) (append_assoc G' E₁' E₂' ∙ sym (ren_two d' ρ P Q₁ Q₂ q)))
        go (Q₁ ∷ Q₂ ∷ Q₃ ∷ Qs) q = absurd (omega (arith, at_most_two P, ap length q))

-- No front, and so no term.
pub renamed_nowhere : (s : List ℕ) (at : ℕ) (arities : List ℕ) (inner : ℕ) (table out : List ℕ) (put : ℕ) (r : ℕ) (out' : List ℕ)
    → NoTerm s at arities out put → RenamedBeneath s at arities inner table out put r out'
unfolding RenamedBeneath
renamed_nowhere s at arities inner table out put r out' never free d d' ρ P rest few rep scope st deep room = absurd (never free d P rest scope st room)

-- The whole term.
pub renamed-whole : (s : List ℕ) (at : ℕ) (arities table out : List ℕ) (put e : ℕ) (out' : List ℕ)
    → RenamedBeneath s at arities 0 table out put e out' → RenameIs s at arities table out put (e - at) out'
unfolding RenamedBeneath RenameIs
renamed-whole s at arities table out put e out' R free D D' ρ P rest few rep scope st deep room =
    let y = R free D D' ρ P rest few (represents_whole free D D' table ρ few (omega arith) rep) scope st deep room in
    (omega (arith, y.0), y.1)
