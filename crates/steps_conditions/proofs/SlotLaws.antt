-- The slots of names: nothing moves when a restriction is left, and the restricted name has the largest slot in use. Assumes nothing.
use mathlib.Core.Path.{◌≡◌, refl, sym, ◌∙◌, ap, ap₂, fun_ext}
use mathlib.Core.Bool.{Bool, true, false, ◌&&◌}
use mathlib.Core.List.{List, [], ◌∷◌, ◌++◌, map}
use Prim.Native.Nat.{ℕ, zero, suc, ◌+◌, ◌-◌, ◌<◌, ◌≤◌}
use native.Mathlib.Omega.{arith}
use lib.Dec.{ltb}
use lib.ListN.{get_or}
use borrow.Author.Tests.{ltb-true, ltb-false}
use Rattle.calculus.specs.Cond.{Cond, map_p, Unif, cls}
use Rattle.calculus.proofs.Conditions.{E2, E3, δ, δ_self, δ_eq, δ_ne, Unif-map_p, cls_le, cls-~, map_p-~, map_p-∘}
use Rattle.calculus.specs.Term.{Term, nil, tau, inp, out, bout, mat, sum, par, res, call, ren, lift}
use Rattle.calculus.proofs.FreeNames.{ren_ext}
use Rattle.calculus.proofs.Renaming.{ren_id}
use Rattle.terms.specs.Encoding.{name_byte, encode, NamesInScope, InScope}
use Rattle.terms.specs.Limits.{name_count}
use Rattle.terms_bytes.specs.NameTable.{table_names}
use Rattle.terms_bytes.proofs.NameTables.{byte_bound, byte_free}
use Rattle.terms.proofs.ScopeLaws.{free_below}
use Rattle.steps_conditions.specs.Names.{HasNames, LevelsIs, UnchangedIs}
use Rattle.steps.specs.Raw.{leaves_alone, restricted_alone, outside}
use Rattle.steps_conditions.specs.Slots.{slot_of, HasClasses, Below}
use Rattle.steps_conditions.proofs.NameSlots.{slot_bound, slot_free, slot_inner}
use Rattle.steps.proofs.Restriction.{spared_alone, outside-~}

pub slot-restricted : (names d : ℕ) → slot_of names (1 + d) 0 ≡ names + d
slot-restricted names d = slot_bound names (1 + d) 0 (omega arith) ∙ omega arith

pub slot-below : (names d n : ℕ) → n < d + names → slot_of names d n < names + d
slot-below names d n h = go (ltb n d) refl
  where
    go : (t : Bool) → ltb n d ≡ t → slot_of names d n < names + d
    go true e = let k = ltb-true n d e in omega (arith, slot_bound names d n k)
    go false e = let k = ltb-false n d e in omega (arith, slot_free names d n k)

-- The restricted name alone has the largest slot.
pub slot-outside : (names d n : ℕ) → n < d + names → slot_of names (1 + d) (suc n) < names + d
slot-outside names d n h = omega (arith, slot_inner names d n, slot-below names d n h)

pub below_slots : (names d : ℕ) (M : Cond) → Below (d + names) M → Below (names + d) (map_p (slot_of names d) M)
unfolding Below
below_slots names d [] b = tt
below_slots names d (p ∷ M) b =
    (slot-below names d p.0 b.0, slot-below names d p.1 b.1, below_slots names d M b.2)

pub below_more : (m n : ℕ) (M : Cond) → m ≤ n → Below m M → Below n M
unfolding Below
below_more m n [] h b = tt
below_more m n (p ∷ M) h b =
    let k = b.0 in
    let l = b.1 in
    (omega arith, omega arith, below_more m n M h b.2)

-- The slot of the restricted name is alone exactly if the condition leaves the name alone.
module _ (names d : ℕ) where
  abbrev under : ℕ → ℕ
  under = slot_of names (1 + d)

  same_test : (n : ℕ) → n < 1 + d + names → δ (names + d) (under n) ≡ δ 0 n
  same_test zero h = ap (δ (names + d)) (slot-restricted names d) ∙ δ_self (names + d)
  same_test (suc n) h = δ_ne (names + d) (under (suc n)) (λ e. absurd (omega (arith, slot-outside names d n (omega arith))))

  unif_slots : (M : Cond) → Below (1 + d + names) M → Unif (δ 0) M → Unif (λ n. δ (names + d) (under n)) M
  unfolding Below
  unif_slots [] b u = tt
  unif_slots (p ∷ M) b u =
      (same_test p.0 b.0 ∙ u.0 ∙ sym (same_test p.1 b.1), unif_slots M b.2 u.1)

  pub spared_slot : (M : Cond) → Below (1 + d + names) M → restricted_alone M ≡ true → cls (map_p under M) (names + d) ≡ names + d
  spared_slot M b s =
      let K : Cond = map_p under M in
      let u : Unif (δ (names + d)) K = Unif-map_p (δ (names + d)) under M (unif_slots M b (spared_alone M s)) in
      sym (δ_eq (names + d) (cls K (names + d)) (E3 (δ (names + d)) K u (names + d) ∙ δ_self (names + d)))

  -- f leaves the slot alone, goes down, and makes a match true: the match leaves the restricted name alone
  one_spared : (f : ℕ → ℕ) → ((s : ℕ) → f s ≤ s) → f (names + d) ≡ names + d → (a b : ℕ) → a < 1 + d + names → b < 1 + d + names
      → f (under a) ≡ f (under b) → leaves_alone a b ≡ true
  unfolding leaves_alone
  one_spared f down alone zero zero ha hb e = refl
  one_spared f down alone zero (suc b) ha hb e =
      absurd (omega (arith, ap f (slot-restricted names d), slot-outside names d b (omega arith), down (under (suc b))))
  one_spared f down alone (suc a) zero ha hb e =
      absurd (omega (arith, ap f (slot-restricted names d), slot-outside names d a (omega arith), down (under (suc a))))
  one_spared f down alone (suc a) (suc b) ha hb e = refl

  all_spared : (f : ℕ → ℕ) → ((s : ℕ) → f s ≤ s) → f (names + d) ≡ names + d → (M : Cond) → Below (1 + d + names) M
      → Unif f (map_p under M) → restricted_alone M ≡ true
  unfolding Below restricted_alone
  all_spared f down alone [] b u = refl
  all_spared f down alone (p ∷ M) b u =
      λ i. one_spared f down alone p.0 p.1 b.0 b.1 u.0 i && all_spared f down alone M b.2 u.1 i

  pub slot_spared : (M : Cond) → Below (1 + d + names) M → cls (map_p under M) (names + d) ≡ names + d → restricted_alone M ≡ true
  slot_spared M b e = all_spared (cls (map_p under M)) (cls_le (map_p under M)) e M b (E2 (map_p under M))

-- A condition that leaves the restricted name alone has the same classes outside the restriction.
pub classes_outside : (c : List ℕ) (d : ℕ) (M : Cond) → restricted_alone M ≡ true → HasClasses c (1 + d) M → HasClasses c d (map_p outside M)
unfolding HasClasses
classes_outside c d M s H k h =
    let N : Cond = map_p outside M in
    let e : map_p (slot_of name_count (1 + d)) (map_p suc N) ≡ map_p (slot_of name_count d) N =
    map_p-∘ (slot_of name_count (1 + d)) suc N ∙ ap (λ f. map_p f N) (fun_ext (slot_inner name_count d)) in
    let q = cls-~ (map_p (slot_of name_count (1 + d)) M) (map_p (slot_of name_count (1 + d)) (map_p suc N))
    (map_p-~ (slot_of name_count (1 + d)) M (map_p suc N) (outside-~ M (spared_alone M s))) in
    H k h ∙ ap (λ f. f k) q ∙ ap (λ K. cls K k) e

pub below-outside : (m n : ℕ) (M : Cond) → 0 < m → n ≤ 1 + m → Below n M → Below m (map_p outside M)
unfolding Below outside
below-outside m n [] z h b = tt
below-outside m n (p ∷ M) z h b = (lower p.0 b.0, lower p.1 b.1, below-outside m n M z h b.2)
  where
    lower : (k : ℕ) → k < n → outside k < m
    lower zero l = z
    lower (suc k) l = omega arith

pub below-append : (n : ℕ) (M N : Cond) → Below n M → Below n N → Below n (M ++ N)
unfolding Below
below-append n [] N b c = c
below-append n (p ∷ M) N b c = (b.0, b.1, below-append n M N b.2 c)

-- Names with the same slot are the same.
same-slot : (names D m n : ℕ) → m < D + names → n < D + names → slot_of names D m ≡ slot_of names D n → m ≡ n
same-slot names D m n h k e = go (ltb m D) refl (ltb n D) refl
  where
    go : (t : Bool) → ltb m D ≡ t → (u : Bool) → ltb n D ≡ u → m ≡ n
    go true t true u = omega (arith, e, ltb-true m D t, ltb-true n D u, slot_bound names D m (ltb-true m D t), slot_bound names D n (ltb-true n D u))
    go true t false u = omega (arith, e, ltb-true m D t, ltb-false n D u, slot_bound names D m (ltb-true m D t), slot_free names D n (ltb-false n D u))
    go false t true u = omega (arith, e, ltb-false m D t, ltb-true n D u, slot_free names D m (ltb-false m D t), slot_bound names D n (ltb-true n D u))
    go false t false u = omega (arith, e, ltb-false m D t, ltb-false n D u, slot_free names D m (ltb-false m D t), slot_free names D n (ltb-false n D u))

-- Where each slot in use has itself, each name stands for itself.
names-unchanged : (free D D' : ℕ) (names : List ℕ) (τ : ℕ → ℕ) → HasNames free D D' names τ → free ≤ table_names → D' ≡ D
    → ((i : ℕ) → i < table_names + D → get_or names i 0 ≡ i) → (m : ℕ) → m < D + free → τ m ≡ m
unfolding HasNames
names-unchanged free D D' names τ has few same is m h =
    let (e, r) = has m h in
    sym (same-slot table_names D m (τ m) (omega arith) (omega arith) (sym (is (slot_of table_names D m) (slot-below table_names D m (omega arith))) ∙ e ∙ ap (λ (d : ℕ). slot_of table_names d (τ m)) same))

-- A free name stands for itself outside of restrictions.
names-outside : (free D' : ℕ) (names : List ℕ) (τ : ℕ → ℕ) → HasNames free 0 D' names τ → free ≤ table_names
    → ((i : ℕ) → i < table_names + 0 → get_or names i 0 ≡ i) → (m : ℕ) → m < 0 + free → τ m ≡ D' + m
unfolding HasNames
names-outside free D' names τ has few is m h =
    let (e, r) = has m h in
    let none : m - 0 ≡ m = omega arith in
    let s : slot_of table_names D' (τ m) ≡ m =
    sym e ∙ ap (λ (k : ℕ). get_or names k 0) (slot_free table_names 0 m (omega arith) ∙ none) ∙ is m (omega arith) in
    go (ltb (τ m) D') refl s
  where
    go : (t : Bool) → ltb (τ m) D' ≡ t → slot_of table_names D' (τ m) ≡ m → τ m ≡ D' + m
    go true t s = absurd (omega (arith, ltb-true (τ m) D' t, slot_bound table_names D' (τ m) (ltb-true (τ m) D' t)))
    go false t s = omega (arith, ltb-false (τ m) D' t, slot_free table_names D' (τ m) (ltb-false (τ m) D' t))

-- The binders of a term, d of them around it, stay, and its free names stand for those outside of L restrictions: its bytes are the same.
abbrev Raises : ℕ → ℕ → ℕ → (ℕ → ℕ) → Type 0
Raises free d L τ = (m : ℕ) → m < d + free → (m < d → τ m ≡ m) × (d ≤ m → τ m ≡ L + m)

raises_lift : (free d L : ℕ) (τ : ℕ → ℕ) → Raises free d L τ → Raises free (1 + d) L (lift τ)
raises_lift free d L τ up zero h = (λ l. refl, λ l. absurd (omega arith))
raises_lift free d L τ up (suc m) h = let (x, y) = up m (omega arith) in (λ l. ap suc (x (omega arith)), λ l. omega (arith, y (omega arith)))

byte-raised : (free d d' L : ℕ) → d' ≡ d + L → (τ : ℕ → ℕ) → Raises free d L τ → (m : ℕ) → m < d + free → name_byte d' (τ m) ≡ name_byte d m
byte-raised free d d' L e τ up m h = go (ltb m d) refl
  where
    go : (t : Bool) → ltb m d ≡ t → name_byte d' (τ m) ≡ name_byte d m
    go true t =
        let l = ltb-true m d t in
        rw ((up m h).0 l) (byte_bound d' m (omega arith) ∙ sym (byte_bound d m l))
    go false t =
        let l = ltb-false m d t in
        rw ((up m h).1 l) (byte_free d' (L + m) (omega arith) ∙ omega arith ∙ sym (byte_free d m l))

names-raised : (free d d' L : ℕ) → d' ≡ d + L → (τ : ℕ → ℕ) → Raises free d L τ → (ns : List ℕ) → NamesInScope free d ns
    → map (name_byte d') (map τ ns) ≡ map (name_byte d) ns
unfolding NamesInScope
names-raised free d d' L e τ up [] s = refl
names-raised free d d' L e τ up (n ∷ ns) s = ap₂ ◌∷◌ (byte-raised free d d' L e τ up n s.0) (names-raised free d d' L e τ up ns s.1)

bytes-raised : (free : ℕ) (arities : List ℕ) (d d' L : ℕ) → d' ≡ d + L → (τ : ℕ → ℕ) → Raises free d L τ → (P : Term) → InScope free arities d P → encode d' (ren τ P) ≡ encode d P
unfolding encode InScope
bytes-raised free arities d d' L e τ up nil s = refl
bytes-raised free arities d d' L e τ up (tau P) s = ap (λ (l : List ℕ). 1 ∷ l) (bytes-raised free arities d d' L e τ up P s)
bytes-raised free arities d d' L e τ up (inp a P) s =
    rw (byte-raised free d d' L e τ up a s.0, bytes-raised free arities (1 + d) (1 + d') L (omega arith) (lift τ) (raises_lift free d L τ up) P s.1)
bytes-raised free arities d d' L e τ up (out a b P) s =
    rw (byte-raised free d d' L e τ up a s.0, byte-raised free d d' L e τ up b s.1, bytes-raised free arities d d' L e τ up P s.2)
bytes-raised free arities d d' L e τ up (bout a P) s =
    rw (byte-raised free d d' L e τ up a s.0, bytes-raised free arities (1 + d) (1 + d') L (omega arith) (lift τ) (raises_lift free d L τ up) P s.1)
bytes-raised free arities d d' L e τ up (mat a b P) s =
    rw (byte-raised free d d' L e τ up a s.0, byte-raised free d d' L e τ up b s.1, bytes-raised free arities d d' L e τ up P s.2)
bytes-raised free arities d d' L e τ up (sum P Q) s =
    rw (bytes-raised free arities d d' L e τ up P s.0, bytes-raised free arities d d' L e τ up Q s.1)
bytes-raised free arities d d' L e τ up (par P Q) s =
    rw (bytes-raised free arities d d' L e τ up P s.0, bytes-raised free arities d d' L e τ up Q s.1)
bytes-raised free arities d d' L e τ up (res P) s =
    ap (λ (l : List ℕ). 8 ∷ l) (bytes-raised free arities (1 + d) (1 + d') L (omega arith) (lift τ) (raises_lift free d L τ up) P s)
bytes-raised free arities d d' L e τ up (call k ns) s = ap (λ (l : List ℕ). 9 ∷ k ∷ l) (names-raised free d d' L e τ up ns s.2)

-- So where no name changes, the bytes are those of the term.
pub unchanged-bytes : (free D D' : ℕ) (names arities : List ℕ) (τ : ℕ → ℕ) → HasNames free D D' names τ → free ≤ table_names → UnchangedIs names D D' true
    → (P : Term) → InScope free arities D P → encode D' (ren τ P) ≡ encode D P
unfolding UnchangedIs LevelsIs
unchanged-bytes free zero D' names arities τ has few U P scope =
    bytes-raised free arities 0 D' D' (omega arith) τ (λ m h. (λ l. absurd (omega arith), λ l. names-outside free D' names τ has few (U refl).1 m h)) P scope
unchanged-bytes free (suc d) D' names arities τ has few U P scope =
    let e : D' ≡ suc d = (U refl).0 refl (omega arith) in
    ap₂ encode e
    (ren_ext τ (λ (n : ℕ). n) P (λ n f. names-unchanged free (suc d) D' names τ has few e (U refl).1 n (free_below free arities (suc d) P scope n f)) ∙ ren_id P)
