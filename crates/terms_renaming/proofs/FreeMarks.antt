-- The flags that the loop over a part's fronts sets are those of its free names. Assumes nothing.
use mathlib.Core.Path.{◌≡◌, refl, sym, ap, ap₂, subst, ◌∙◌}
use mathlib.Core.Bool.{Bool, true, false}
use mathlib.Core.List.{List, [], ◌∷◌, ◌++◌, map, append_assoc, append-nil}
use mathlib.Core.Logic.{◌⊎◌, inl, inr, ⊎_elim}
use Prim.Native.Nat.{ℕ, suc, ◌+◌, ◌<◌, ◌≤◌}
use native.Mathlib.Nat.{zero-add}
use native.Mathlib.Numerals.{add-one}
use native.Mathlib.Omega.{arith}
use lib.ListN.{length, get_or, take, drop, set, length-set, length-append, length-drop}
use lib.Seq.{take-suc, get_or-set_same, get_or-set_other, drop-drop, drop-append_seam}
use lib.Dec.{ltb, eqb}
use borrow.Author.Tests.{ltb-true, ltb-false, eqb-true, eqb-false}
use Rattle.calculus.proofs.FreeNames.{in_left, in_right, of_in_++, in_map, of_in_map}
use Rattle.calculus.specs.Free.{In, Free}
use Rattle.calculus.specs.Term.{Term, nil, tau, inp, out, bout, mat, sum, par, res, call}
use Rattle.terms.specs.Limits.{name_count}
use Rattle.terms.specs.Encoding.{name_byte, encode, InScope}
use Rattle.terms_renaming.specs.FreeFlags.{marks, MarksFree, FreeFlags, MarksFreeOf}
use Rattle.terms_bytes.specs.Shape.{own_names, binders, subterms, front_bytes, ShapeIs}
use Rattle.terms_bytes.specs.declared.shape.Shape.{Shape}
use Rattle.terms_bytes.proofs.NameTables.{byte_bound, byte_free}
use Rattle.terms.proofs.ReadEncoded.{encode-some}
use Rattle.terms_bytes.proofs.Shapes.{encode_all, encode-parts, AllInScope, front_of, subterms_scope, span-names, length_front, front-inside}
use Rattle.terms_bytes.proofs.Stores.{span}

-- Setting flags.
pub marks-append : (l xs ys : List ℕ) → marks l (xs ++ ys) ≡ marks (marks l xs) ys
unfolding marks
marks-append l [] ys = refl
marks-append l (x ∷ xs) ys = marks-append (set l x 1) xs ys

pub length-marks : (l xs : List ℕ) → length (marks l xs) ≡ length l
unfolding marks
length-marks l [] = refl
length-marks l (x ∷ xs) = length-marks (set l x 1) xs ∙ length-set l x 1

-- One more element of a run.
pub marks-more : (l xs : List ℕ) (i : ℕ) → i < length xs → set (marks l (take i xs)) (get_or xs i 0) 1 ≡ marks l (take (i + 1) xs)
unfolding marks
marks-more l xs i h = sym (rw (add-one, take-suc xs i 0) (marks-append l (take i xs) (get_or xs i 0 ∷ [])))

in_or_not : (n : ℕ) (xs : List ℕ) → In n xs ⊎ (In n xs → ⊥)
in_or_not n [] = inr (λ h. h)
in_or_not n (x ∷ xs) = go (eqb n x) refl (in_or_not n xs)
  where
    go : (t : Bool) → eqb n x ≡ t → In n xs ⊎ (In n xs → ⊥) → In n (x ∷ xs) ⊎ (In n (x ∷ xs) → ⊥)
    go true e h = inl (inl (eqb-true n x e))
    go false e (inl h) = inl (inr h)
    go false e (inr h) = inr (⊎_elim (λ p. eqb-false n x e p) h)

marks-out : (l xs : List ℕ) (n : ℕ) → (In n xs → ⊥) → get_or (marks l xs) n 0 ≡ get_or l n 0
unfolding marks
marks-out l [] n h = refl
marks-out l (x ∷ xs) n h = marks-out (set l x 1) xs n (λ m. h (inr m)) ∙ get_or-set_other l x n 1 0 (λ e. h (inl e))

marks_in : (l xs : List ℕ) (n : ℕ) → n < length l → In n xs → get_or (marks l xs) n 0 ≡ 1
unfolding marks
marks_in l [] n h m = elim m [ ]
marks_in l (x ∷ xs) n h m = go (λ k. marks_in (set l x 1) xs n (rw length-set h) k) (in_or_not n xs) m
  where
    go : (In n xs → get_or (marks (set l x 1) xs) n 0 ≡ 1) → In n xs ⊎ (In n xs → ⊥) → In n (x ∷ xs) → get_or (marks (set l x 1) xs) n 0 ≡ 1
    go ih (inl k) m = ih k
    go ih (inr k) (inl e) = marks-out (set l x 1) xs n k ∙ rw e (get_or-set_same l x 1 0 (rw (← e) h))
    go ih (inr k) (inr m) = absurd (k m)

-- The name bytes of a term, from left to right.
unfoldable pub name_bytes : ℕ → Term → List ℕ
name_bytes d nil = []
name_bytes d (tau P) = name_bytes d P
name_bytes d (inp a P) = name_byte d a ∷ name_bytes (1 + d) P
name_bytes d (out a b P) = name_byte d a ∷ name_byte d b ∷ name_bytes d P
name_bytes d (bout a P) = name_byte d a ∷ name_bytes (1 + d) P
name_bytes d (mat a b P) = name_byte d a ∷ name_byte d b ∷ name_bytes d P
name_bytes d (sum P Q) = name_bytes d P ++ name_bytes d Q
name_bytes d (par P Q) = name_bytes d P ++ name_bytes d Q
name_bytes d (res P) = name_bytes (1 + d) P
name_bytes d (call k ns) = map (name_byte d) ns

unfoldable pub name_bytes_all : ℕ → List Term → List ℕ
name_bytes_all d [] = []
name_bytes_all d (P ∷ Ps) = name_bytes d P ++ name_bytes_all d Ps

names-parts : (d : ℕ) (P : Term) → name_bytes d P ≡ map (name_byte d) (own_names P) ++ name_bytes_all (binders P + d) (subterms P)
unfolding name_bytes name_bytes_all own_names binders subterms
names-parts d nil = refl
names-parts d (tau P) = rw (zero-add, append-nil)
names-parts d (inp a P) = rw append-nil
names-parts d (out a b P) = rw (zero-add, append-nil)
names-parts d (bout a P) = rw append-nil
names-parts d (mat a b P) = rw (zero-add, append-nil)
names-parts d (sum P Q) = rw (zero-add, append-nil)
names-parts d (par P Q) = rw (zero-add, append-nil)
names-parts d (res P) = rw append-nil
names-parts d (call k ns) = sym (append-nil (map (name_byte d) ns))

-- A byte below 80 is that of a free name.
byte_of_free : (d a n : ℕ) → n < 128 → n ≡ name_byte d a → d + n ≡ a
byte_of_free d a n h e = go (ltb a d) refl
  where
    go : (t : Bool) → ltb a d ≡ t → d + n ≡ a
    go true t = absurd (omega (arith, e ∙ byte_bound d a (ltb-true a d t)))
    go false t = omega (arith, ltb-false a d t, e ∙ byte_free d a (ltb-false a d t))

free_of_byte : (d a n : ℕ) → d + n ≡ a → n ≡ name_byte d a
free_of_byte d a n e = omega (arith, byte_free d a (omega arith))

under : (d n : ℕ) → 1 + d + n ≡ suc (d + n)
under d n = omega arith

in→free : (n : ℕ) → n < 128 → (d : ℕ) (P : Term) → In n (name_bytes d P) → Free (d + n) P
unfolding name_bytes
in→free n h d nil m = elim m [ ]
in→free n h d (tau P) m = in→free n h d P m
in→free n h d (inp a P) (inl e) = inl (byte_of_free d a n h e)
in→free n h d (inp a P) (inr m) = inr (subst (λ (k : ℕ). Free k P) (under d n) (in→free n h (1 + d) P m))
in→free n h d (out a b P) (inl e) = inl (byte_of_free d a n h e)
in→free n h d (out a b P) (inr (inl e)) = inr (inl (byte_of_free d b n h e))
in→free n h d (out a b P) (inr (inr m)) = inr (inr (in→free n h d P m))
in→free n h d (bout a P) (inl e) = inl (byte_of_free d a n h e)
in→free n h d (bout a P) (inr m) = inr (subst (λ (k : ℕ). Free k P) (under d n) (in→free n h (1 + d) P m))
in→free n h d (mat a b P) (inl e) = inl (byte_of_free d a n h e)
in→free n h d (mat a b P) (inr (inl e)) = inr (inl (byte_of_free d b n h e))
in→free n h d (mat a b P) (inr (inr m)) = inr (inr (in→free n h d P m))
in→free n h d (sum P Q) m =
    ⊎_elim (λ k. inl (in→free n h d P k)) (λ k. inr (in→free n h d Q k)) (of_in_++ n (name_bytes d P) (name_bytes d Q) m)
in→free n h d (par P Q) m =
    ⊎_elim (λ k. inl (in→free n h d P k)) (λ k. inr (in→free n h d Q k)) (of_in_++ n (name_bytes d P) (name_bytes d Q) m)
in→free n h d (res P) m = subst (λ (k : ℕ). Free k P) (under d n) (in→free n h (1 + d) P m)
in→free n h d (call k ns) m =
    let (a, i, e) = of_in_map (name_byte d) n ns m in
    subst (λ (j : ℕ). In j ns) (sym (byte_of_free d a n h e)) i

free→in : (n d : ℕ) (P : Term) → Free (d + n) P → In n (name_bytes d P)
unfolding name_bytes
free→in n d nil f = elim f [ ]
free→in n d (tau P) f = free→in n d P f
free→in n d (inp a P) (inl e) = inl (free_of_byte d a n e)
free→in n d (inp a P) (inr f) = inr (free→in n (1 + d) P (subst (λ (k : ℕ). Free k P) (sym (under d n)) f))
free→in n d (out a b P) (inl e) = inl (free_of_byte d a n e)
free→in n d (out a b P) (inr (inl e)) = inr (inl (free_of_byte d b n e))
free→in n d (out a b P) (inr (inr f)) = inr (inr (free→in n d P f))
free→in n d (bout a P) (inl e) = inl (free_of_byte d a n e)
free→in n d (bout a P) (inr f) = inr (free→in n (1 + d) P (subst (λ (k : ℕ). Free k P) (sym (under d n)) f))
free→in n d (mat a b P) (inl e) = inl (free_of_byte d a n e)
free→in n d (mat a b P) (inr (inl e)) = inr (inl (free_of_byte d b n e))
free→in n d (mat a b P) (inr (inr f)) = inr (inr (free→in n d P f))
free→in n d (sum P Q) (inl f) = in_left n (name_bytes d P) (name_bytes d Q) (free→in n d P f)
free→in n d (sum P Q) (inr f) = in_right n (name_bytes d P) (name_bytes d Q) (free→in n d Q f)
free→in n d (par P Q) (inl f) = in_left n (name_bytes d P) (name_bytes d Q) (free→in n d P f)
free→in n d (par P Q) (inr f) = in_right n (name_bytes d P) (name_bytes d Q) (free→in n d Q f)
free→in n d (res P) f = free→in n (1 + d) P (subst (λ (k : ℕ). Free k P) (sym (under d n)) f)
free→in n d (call k ns) f = subst (λ (b : ℕ). In b (map (name_byte d) ns)) (sym (free_of_byte d (d + n) n refl)) (in_map (name_byte d) (d + n) ns f)

-- So the flags set at a part's name bytes are its free names'.
pub marks_free : (P : Term) (l : List ℕ) → length l ≡ name_count → MarksFree P l (marks l (name_bytes 0 P))
marks_free P l e = record {
  free = λ n h f. marks_in l (name_bytes 0 P) n (omega arith) (free→in n 0 P (subst (λ (k : ℕ). Free k P) (sym (zero-add n)) f));
  other = λ n h f. marks-out l (name_bytes 0 P) n (λ m. f (subst (λ (k : ℕ). Free k P) (zero-add n) (in→free n (omega arith) 0 P m)));
}

free_or_not : (P : Term) (n : ℕ) → n < name_count → Free n P ⊎ (Free n P → ⊥)
free_or_not P n h =
    ⊎_elim (λ m. inl (subst (λ (k : ℕ). Free k P) (zero-add n) (in→free n (omega arith) 0 P m)))
    (λ m. inr (λ f. m (free→in n 0 P (subst (λ (k : ℕ). Free k P) (sym (zero-add n)) f)))) (in_or_not n (name_bytes 0 P))

-- Of flags that were all 0.
pub flags_free : (P : Term) (l l' : List ℕ) → ((n : ℕ) → n < name_count → get_or l n 0 ≡ 0) → MarksFree P l l' → FreeFlags P l'
flags_free P l l' z M = record {
  free = M.free;
  only = λ n h e. ⊎_elim (λ f. f) (λ f. absurd (omega (arith, e, M.other n h f, z n h))) (free_or_not P n h);
  bit = λ n h. ⊎_elim (λ f. omega (arith, M.free n h f)) (λ f. omega (arith, M.other n h f, z n h)) (free_or_not P n h);
}

-- The loop: what is left to go through is a list of terms, each under its binders.
abbrev pub Terms : Type 0
Terms = List (ℕ × Term)

unfoldable pub bytes_of : Terms → List ℕ
bytes_of [] = []
bytes_of (t ∷ ts) = encode t.0 t.1 ++ bytes_of ts

unfoldable pub names_of : Terms → List ℕ
names_of [] = []
names_of (t ∷ ts) = name_bytes t.0 t.1 ++ names_of ts

unfoldable pub ScopeOf : List ℕ → Terms → Type 0
ScopeOf arities [] = Unit {0}
ScopeOf arities (t ∷ ts) = InScope name_count arities t.0 t.1 × ScopeOf arities ts

pub record Left (s arities : List ℕ) (at : ℕ) (all flags : List ℕ) : Type 0 where
  pub terms : Terms
  pub bytes : drop at s ≡ bytes_of terms
  pub scope : ScopeOf arities terms
  pub marked : all ≡ marks flags (names_of terms)

-- For every part that the bytes may be: what is left of it, and what its flags will be.
unfoldable pub Going : List ℕ → List ℕ → List ℕ → ℕ → List ℕ → Type 0
Going s arities flags₀ at flags =
    (P : Term) → InScope name_count arities 0 P → s ≡ encode 0 P → Left s arities at (marks flags₀ (name_bytes 0 P)) flags

pub going_starts : (s arities flags : List ℕ) → Going s arities flags 0 flags
unfolding Going bytes_of names_of ScopeOf
going_starts s arities flags P sc e = record {
  terms = (0, P) ∷ [];
  bytes = e ∙ sym (append-nil (encode 0 P));
  scope = (sc, tt);
  marked = rw append-nil;
}

-- The subterms of a term come first among what is left.
under_all : ℕ → List Term → Terms → Terms
under_all d [] ts = ts
under_all d (P ∷ Ps) ts = (d, P) ∷ under_all d Ps ts

bytes-under : (d : ℕ) (Ps : List Term) (ts : Terms) → bytes_of (under_all d Ps ts) ≡ encode_all d Ps ++ bytes_of ts
unfolding under_all bytes_of encode_all
bytes-under d [] ts = refl
bytes-under d (P ∷ Ps) ts = rw (bytes-under d Ps ts, append_assoc)

names-under : (d : ℕ) (Ps : List Term) (ts : Terms) → names_of (under_all d Ps ts) ≡ name_bytes_all d Ps ++ names_of ts
unfolding under_all names_of name_bytes_all
names-under d [] ts = refl
names-under d (P ∷ Ps) ts = rw (names-under d Ps ts, append_assoc)

scope_under : (arities : List ℕ) (d : ℕ) (Ps : List Term) (ts : Terms) → AllInScope name_count arities d Ps → ScopeOf arities ts
    → ScopeOf arities (under_all d Ps ts)
unfolding under_all ScopeOf
scope_under arities d [] ts h k = k
scope_under arities d (P ∷ Ps) ts h k = (h.0, scope_under arities d Ps ts h.1 k)

none_left : (d : ℕ) (P : Term) (s rest : List ℕ) (at : ℕ) → length s ≤ at → drop at s ≡ encode d P ++ rest → ⊥
none_left d P s rest at h e = omega (arith, encode-some d P, simp (length-append, length-drop) at (ap length e))

module _ (s arities : List ℕ) (at : ℕ) (h : Shape) (is : ShapeIs s at arities h) (lt : at < length s) where
  advance : (all flags flags₁ : List ℕ) (ts : Terms) → drop at s ≡ bytes_of ts → ScopeOf arities ts → all ≡ marks flags (names_of ts)
      → flags₁ ≡ marks flags (span s (at + h.fixed) h.names) → Left s arities (at + (h.fixed + h.names)) all flags₁
  unfolding bytes_of names_of ScopeOf
  advance all flags flags₁ [] e sc m w = absurd (omega (arith, simp length-drop at (ap length e)))
  advance all flags flags₁ (t ∷ ts) e sc m w =
      let d = t.0 in
      let P = t.1 in
      let f = front_of name_count arities d P sc.0 in
      let b = binders P + d in
      let n : h.fixed + h.names ≡ length (front_bytes d P) = length_front s at arities h is d P f (bytes_of ts) e in
      let v : span s (at + h.fixed) h.names ≡ map (name_byte d) (own_names P) = span-names s at arities h is d P f (bytes_of ts) e in
      let e' : drop at s ≡ front_bytes d P ++ (encode_all b (subterms P) ++ bytes_of ts) =
      e ∙ ap (λ (l : List ℕ). l ++ bytes_of ts) (encode-parts d P) ∙ append_assoc (front_bytes d P) (encode_all b (subterms P)) (bytes_of ts) in
      record {
        terms = under_all b (subterms P) ts;
        bytes = rw (n, ← drop-drop, e', drop-append_seam) (sym (bytes-under b (subterms P) ts));
        scope = scope_under arities b (subterms P) ts (subterms_scope name_count arities d P sc.0) sc.1;
        marked =
            m ∙ ap (λ (l : List ℕ). marks flags (l ++ names_of ts)) (names-parts d P)
            ∙ ap (marks flags) (append_assoc (map (name_byte d) (own_names P)) (name_bytes_all b (subterms P)) (names_of ts))
            ∙ marks-append flags (map (name_byte d) (own_names P)) (name_bytes_all b (subterms P) ++ names_of ts)
            ∙ ap₂ marks (sym (w ∙ ap (marks flags) v)) (sym (names-under b (subterms P) ts));
      }

  pub going_on : (flags₀ flags flags₁ : List ℕ) → flags₁ ≡ marks flags (span s (at + h.fixed) h.names) → Going s arities flags₀ at flags
      → Going s arities flags₀ (at + (h.fixed + h.names)) flags₁
  unfolding Going
  going_on flags₀ flags flags₁ w G P sc e =
      let L = G P sc e in
      advance (marks flags₀ (name_bytes 0 P)) flags flags₁ L.terms L.bytes L.scope L.marked w

  stuck : (ts : Terms) → drop at s ≡ bytes_of ts → ScopeOf arities ts → length s < at + (h.fixed + h.names) → ⊥
  unfolding bytes_of ScopeOf
  stuck [] e sc short = omega (arith, simp length-drop at (ap length e))
  stuck (t ∷ ts) e sc short =
      omega (arith, front-inside s at arities h is t.0 t.1 (front_of name_count arities t.0 t.1 sc.0) (bytes_of ts) e lt)

  pub going_stuck : (flags₀ flags : List ℕ) → length s < at + (h.fixed + h.names) → Going s arities flags₀ at flags
      → MarksFreeOf s arities flags₀ flags
  unfolding Going MarksFreeOf
  going_stuck flags₀ flags short G P sc e n = let L = G P sc e in absurd (stuck L.terms L.bytes L.scope short)

pub going_ends : (s arities : List ℕ) (at : ℕ) (flags₀ flags : List ℕ) → length s ≤ at → Going s arities flags₀ at flags
    → MarksFreeOf s arities flags₀ flags
unfolding Going MarksFreeOf bytes_of names_of marks
going_ends s arities at flags₀ flags past G P sc e n =
    let L = G P sc e in
    subst (MarksFree P flags₀) (ended L.terms L.bytes L.marked) (marks_free P flags₀ n)
  where
    ended : (ts : Terms) → drop at s ≡ bytes_of ts → marks flags₀ (name_bytes 0 P) ≡ marks flags (names_of ts) → marks flags₀ (name_bytes 0 P) ≡ flags
    ended [] b m = m
    ended (t ∷ ts) b m = absurd (none_left t.0 t.1 s (bytes_of ts) at past b)
