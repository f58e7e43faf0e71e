-- A term is its front and its subterms: the coding, the renaming and what is in scope, each said once for the ten forms. Assumes nothing.
use mathlib.Core.Path.{◌≡◌, refl, sym, ap, ap₂, ◌∙◌}
use mathlib.Core.Bool.{Bool, true, false, ◌&&◌, cond}
use mathlib.Core.List.{List, [], ◌∷◌, ◌++◌, map, append_assoc, append-nil}
use Prim.Native.Nat.{ℕ, zero, suc, ◌+◌, ◌<◌, ◌≤◌, zero-le}
use native.Mathlib.Nat.{add-zero, zero-add}
use native.Mathlib.Omega.{arith}
use lib.ListN.{length, get_or, drop, length-append, length-map, length-drop}
use lib.Seq.{take-append_seam, drop-append_seam, drop-drop, take_at}
use lib.Dec.{leb, eqb}
use borrow.Author.Tests.{leb-true}
use Rattle.calculus.specs.Term.{Term, nil, tau, inp, out, bout, mat, sum, par, res, call, ren}
use Rattle.terms.specs.Encoding.{name_byte, encode, NamesInScope, InScope}
use Rattle.terms_bytes.specs.Shape.{fixed_bytes, own_names, binders, subterms, front_bytes, fixed_at, names_at, binders_at, subterms_at, ShapeIs}
use Rattle.terms_bytes.specs.declared.shape.Shape.{Shape}
use Rattle.terms_bytes.proofs.Stores.{span, get_d_front}
use Rattle.terms_bytes.proofs.NameTables.{lift_by}

and_left : (x y : Bool) → x && y ≡ true → x ≡ true
and_left true y h = refl
and_left false y h = h

and_right : (x y : Bool) → x && y ≡ true → y ≡ true
and_right true y h = h
and_right false true h = refl
and_right false false h = h

-- Each entry of a table is at most b, by computing.
abbrev all_le : ℕ → List ℕ → Bool
all_le b [] = true
all_le b (x ∷ xs) = leb x b && all_le b xs

pub all-at : (b : ℕ) (l : List ℕ) (i : ℕ) → all_le b l ≡ true → get_or l i 0 ≤ b
all-at b [] i h = zero-le
all-at b (x ∷ xs) zero h = leb-true x b (and_left (leb x b) (all_le b xs) h)
all-at b (x ∷ xs) (suc i) h = all-at b xs i (and_right (leb x b) (all_le b xs) h)

-- The bytes of terms that follow one another.
unfoldable pub encode_all : ℕ → List Term → List ℕ
encode_all d [] = []
encode_all d (P ∷ Ps) = encode d P ++ encode_all d Ps

pub encode-parts : (d : ℕ) (P : Term) → encode d P ≡ front_bytes d P ++ encode_all (binders P + d) (subterms P)
unfolding encode front_bytes fixed_bytes own_names binders subterms encode_all
encode-parts d nil = refl
encode-parts d (tau P) = rw (zero-add, append-nil)
encode-parts d (inp a P) = rw append-nil
encode-parts d (out a b P) = rw (zero-add, append-nil)
encode-parts d (bout a P) = rw append-nil
encode-parts d (mat a b P) = rw (zero-add, append-nil)
encode-parts d (sum P Q) = rw (zero-add, append-nil)
encode-parts d (par P Q) = rw (zero-add, append-nil)
encode-parts d (res P) = rw append-nil
encode-parts d (call k ns) = sym (append-nil (9 ∷ k ∷ map (name_byte d) ns))

pub at_most_two : (P : Term) → length (subterms P) ≤ 2
unfolding subterms
at_most_two nil = omega arith
at_most_two (tau P) = omega arith
at_most_two (inp a P) = omega arith
at_most_two (out a b P) = omega arith
at_most_two (bout a P) = omega arith
at_most_two (mat a b P) = omega arith
at_most_two (sum P Q) = omega arith
at_most_two (par P Q) = omega arith
at_most_two (res P) = omega arith
at_most_two (call k ns) = omega arith

-- Renaming keeps the shape.
pub fixed_ren : (ρ : ℕ → ℕ) (P : Term) → fixed_bytes (ren ρ P) ≡ fixed_bytes P
unfolding fixed_bytes
fixed_ren ρ nil = refl
fixed_ren ρ (tau P) = refl
fixed_ren ρ (inp a P) = refl
fixed_ren ρ (out a b P) = refl
fixed_ren ρ (bout a P) = refl
fixed_ren ρ (mat a b P) = refl
fixed_ren ρ (sum P Q) = refl
fixed_ren ρ (par P Q) = refl
fixed_ren ρ (res P) = refl
fixed_ren ρ (call k ns) = refl

pub names-ren : (ρ : ℕ → ℕ) (P : Term) → own_names (ren ρ P) ≡ map ρ (own_names P)
unfolding own_names
names-ren ρ nil = refl
names-ren ρ (tau P) = refl
names-ren ρ (inp a P) = refl
names-ren ρ (out a b P) = refl
names-ren ρ (bout a P) = refl
names-ren ρ (mat a b P) = refl
names-ren ρ (sum P Q) = refl
names-ren ρ (par P Q) = refl
names-ren ρ (res P) = refl
names-ren ρ (call k ns) = refl

pub binders-ren : (ρ : ℕ → ℕ) (P : Term) → binders (ren ρ P) ≡ binders P
unfolding binders
binders-ren ρ nil = refl
binders-ren ρ (tau P) = refl
binders-ren ρ (inp a P) = refl
binders-ren ρ (out a b P) = refl
binders-ren ρ (bout a P) = refl
binders-ren ρ (mat a b P) = refl
binders-ren ρ (sum P Q) = refl
binders-ren ρ (par P Q) = refl
binders-ren ρ (res P) = refl
binders-ren ρ (call k ns) = refl

pub subterms-ren : (ρ : ℕ → ℕ) (P : Term) → subterms (ren ρ P) ≡ map (ren (lift_by (binders P) ρ)) (subterms P)
unfolding subterms binders
subterms-ren ρ nil = refl
subterms-ren ρ (tau P) = refl
subterms-ren ρ (inp a P) = refl
subterms-ren ρ (out a b P) = refl
subterms-ren ρ (bout a P) = refl
subterms-ren ρ (mat a b P) = refl
subterms-ren ρ (sum P Q) = refl
subterms-ren ρ (par P Q) = refl
subterms-ren ρ (res P) = refl
subterms-ren ρ (call k ns) = refl

-- So the front of the renamed term is the front with its names renamed, and the whole is as long.
pub front-ren : (d : ℕ) (ρ : ℕ → ℕ) (P : Term) → front_bytes d (ren ρ P) ≡ fixed_bytes P ++ map (name_byte d) (map ρ (own_names P))
unfolding front_bytes
front-ren d ρ P = rw (fixed_ren, names-ren)

pub length-front-ren : (d d' : ℕ) (ρ : ℕ → ℕ) (P : Term) → length (front_bytes d' (ren ρ P)) ≡ length (front_bytes d P)
unfolding front_bytes
length-front-ren d d' ρ P = ap length (front-ren d' ρ P) ∙ simp (length-append, length-map)

pub encode-ren : (d : ℕ) (ρ : ℕ → ℕ) (P : Term)
    → encode d (ren ρ P) ≡ front_bytes d (ren ρ P) ++ encode_all (binders P + d) (map (ren (lift_by (binders P) ρ)) (subterms P))
encode-ren d ρ P = encode-parts d (ren ρ P) ∙ rw (binders-ren, subterms-ren)

-- What a term's first byte and a call's number say of its shape.
pub record Front (arities : List ℕ) (P : Term) : Type 0 where
  pub fixed : length (fixed_bytes P) ≡ fixed_at (get_or (fixed_bytes P) 0 0)
  pub names : length (own_names P) ≡ names_at arities (get_or (fixed_bytes P) 0 0) (get_or (fixed_bytes P) 1 0)
  pub binds : binders_at (get_or (fixed_bytes P) 0 0) ≡ binders P
  pub subterms : subterms_at (get_or (fixed_bytes P) 0 0) ≡ length (subterms P)

pub front_of : (free : ℕ) (arities : List ℕ) (d : ℕ) (P : Term) → InScope free arities d P → Front arities P
unfolding InScope fixed_bytes own_names binders subterms fixed_at names_at binders_at subterms_at
front_of free arities d nil h = record { fixed = refl; names = refl; binds = refl; subterms = refl }
front_of free arities d (tau P) h = record { fixed = refl; names = refl; binds = refl; subterms = refl }
front_of free arities d (inp a P) h = record { fixed = refl; names = refl; binds = refl; subterms = refl }
front_of free arities d (out a b P) h = record { fixed = refl; names = refl; binds = refl; subterms = refl }
front_of free arities d (bout a P) h = record { fixed = refl; names = refl; binds = refl; subterms = refl }
front_of free arities d (mat a b P) h = record { fixed = refl; names = refl; binds = refl; subterms = refl }
front_of free arities d (sum P Q) h = record { fixed = refl; names = refl; binds = refl; subterms = refl }
front_of free arities d (par P Q) h = record { fixed = refl; names = refl; binds = refl; subterms = refl }
front_of free arities d (res P) h = record { fixed = refl; names = refl; binds = refl; subterms = refl }
front_of free arities d (call k ns) h = record { fixed = refl; names = h.1; binds = refl; subterms = refl }

-- What is in scope: the own names, and each subterm beneath the binders.
abbrev pub AllInScope : ℕ → List ℕ → ℕ → List Term → Type 0
AllInScope free arities d [] = Unit {0}
AllInScope free arities d (P ∷ Ps) = InScope free arities d P × AllInScope free arities d Ps

pub names_scope : (free : ℕ) (arities : List ℕ) (d : ℕ) (P : Term) → InScope free arities d P → NamesInScope free d (own_names P)
unfolding InScope NamesInScope own_names
names_scope free arities d nil h = tt
names_scope free arities d (tau P) h = tt
names_scope free arities d (inp a P) h = (h.0, tt)
names_scope free arities d (out a b P) h = (h.0, (h.1, tt))
names_scope free arities d (bout a P) h = (h.0, tt)
names_scope free arities d (mat a b P) h = (h.0, (h.1, tt))
names_scope free arities d (sum P Q) h = tt
names_scope free arities d (par P Q) h = tt
names_scope free arities d (res P) h = tt
names_scope free arities d (call k ns) h = h.2

pub subterms_scope : (free : ℕ) (arities : List ℕ) (d : ℕ) (P : Term) → InScope free arities d P
    → AllInScope free arities (binders P + d) (subterms P)
unfolding InScope subterms binders
subterms_scope free arities d nil h = tt
subterms_scope free arities d (tau P) h = (rw zero-add h, tt)
subterms_scope free arities d (inp a P) h = (h.1, tt)
subterms_scope free arities d (out a b P) h = (rw zero-add h.2, tt)
subterms_scope free arities d (bout a P) h = (h.1, tt)
subterms_scope free arities d (mat a b P) h = (rw zero-add h.2, tt)
subterms_scope free arities d (sum P Q) h = (rw zero-add h.0, (rw zero-add h.1, tt))
subterms_scope free arities d (par P Q) h = (rw zero-add h.0, (rw zero-add h.1, tt))
subterms_scope free arities d (res P) h = (h, tt)
subterms_scope free arities d (call k ns) h = tt

fixed_some : (t : ℕ) → 0 < fixed_at t
unfolding fixed_at
fixed_some t = go (eqb t 9)
  where
    go : (b : Bool) → 0 < cond b 2 1
    go true = omega arith
    go false = omega arith

-- What stands at `at` is a term, and its shape is what is read there.
module _ (s : List ℕ) (at : ℕ) (arities : List ℕ) (h : Shape) (is : ShapeIs s at arities h)
    (d : ℕ) (P : Term) (front : Front arities P) (rest : List ℕ) (e : drop at s ≡ encode d P ++ rest) where
  fixed_then : drop at s ≡ fixed_bytes P ++ (map (name_byte d) (own_names P) ++ (encode_all (binders P + d) (subterms P) ++ rest))
  unfolding front_bytes
  fixed_then = e ∙ rw (encode-parts) (simp append_assoc)

  tag : get_or s at 0 ≡ get_or (fixed_bytes P) 0 0
  tag =
      let k = fixed_some (get_or (fixed_bytes P) 0 0) in
      rw add-zero at (get_d_front s at (fixed_bytes P) _ 0 fixed_then (omega (arith, front.fixed)))

  pub shape_fixed : h.fixed ≡ length (fixed_bytes P)
  shape_fixed = is.fixed ∙ ap fixed_at tag ∙ sym front.fixed

  pub shape_names : h.names ≡ length (own_names P)
  unfolding names_at fixed_at
  shape_names =
      is.names ∙ ap (λ (t : ℕ). names_at arities t (get_or s (at + 1) 0)) tag ∙ go (eqb (get_or (fixed_bytes P) 0 0) 9) refl ∙ sym front.names
    where
      go : (t : Bool) → eqb (get_or (fixed_bytes P) 0 0) 9 ≡ t
          → names_at arities (get_or (fixed_bytes P) 0 0) (get_or s (at + 1) 0) ≡ names_at arities (get_or (fixed_bytes P) 0 0) (get_or (fixed_bytes P) 1 0)
      go true q =
          let two : length (fixed_bytes P) ≡ 2 = rw q at front.fixed in
          ap (names_at arities (get_or (fixed_bytes P) 0 0)) (get_d_front s at (fixed_bytes P) _ 1 fixed_then (omega arith))
      go false q = rw q

  pub shape_binds : h.binds ≡ binders P
  shape_binds = is.binds ∙ ap binders_at tag ∙ front.binds

  pub shape_parts : h.subterms ≡ length (subterms P)
  shape_parts = is.subterms ∙ ap subterms_at tag ∙ front.subterms

  pub span_fixed : span s at h.fixed ≡ fixed_bytes P
  span_fixed = rw (shape_fixed, fixed_then, take-append_seam)

  pub span-names : span s (at + h.fixed) h.names ≡ map (name_byte d) (own_names P)
  span-names =
      rw (shape_fixed, shape_names, ← drop-drop, fixed_then, drop-append_seam)
      (take_at (map (name_byte d) (own_names P)) _ (length (own_names P)) (length-map (own_names P) (name_byte d)))

  pub length_front : h.fixed + h.names ≡ length (front_bytes d P)
  unfolding front_bytes
  length_front = ap₂ ◌+◌ shape_fixed shape_names ∙ sym (length-append (fixed_bytes P) (map (name_byte d) (own_names P)) ∙ simp length-map)

  pub front-inside : (at < length s) → at + (h.fixed + h.names) ≤ length s
  front-inside lt =
      let l = simp (length-append, length-drop) at (ap length e) in
      let m = ap length (encode-parts d P) ∙ length-append (front_bytes d P) (encode_all (binders P + d) (subterms P)) in
      omega (arith, length_front, l, m)

pub front-some : (arities : List ℕ) (d : ℕ) (P : Term) → Front arities P → 0 < length (front_bytes d P)
unfolding front_bytes
front-some arities d P front =
    omega (arith, fixed_some (get_or (fixed_bytes P) 0 0), front.fixed, length-append (fixed_bytes P) (map (name_byte d) (own_names P)))
