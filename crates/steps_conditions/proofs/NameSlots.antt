-- Tables of names by slots: what they have beneath a binder, in a called body, and as tables for renaming. Assumes nothing.
use mathlib.Core.Path.{◌≡◌, refl, sym, ap, ◌∙◌}
use mathlib.Core.Bool.{Bool, true, false, cond, ◌&&◌}
use mathlib.Core.List.{List}
use Prim.Native.Nat.{ℕ, zero, suc, ◌+◌, ◌-◌, ◌<◌, ◌≤◌}
use native.Mathlib.Nat.{eq-or-lt_of_le}
use mathlib.Core.Logic.{⊎_elim}
use native.Mathlib.Omega.{arith}
use lib.ListN.{length, get_or, set}
use lib.Seq.{get_or-set_same, get_or-set_other}
use lib.Dec.{eqb, ltb}
use borrow.Author.Tests.{eqb-true, ltb-true, ltb-false, lt-ltb, le-ltb}
use Rattle.calculus.specs.Term.{◌•◌}
use Rattle.terms_bytes.specs.NameTable.{table_names}
use Rattle.terms.specs.Encoding.{name_byte}
use Rattle.terms_bytes.specs.NameTable.{slot, Represents}
use Rattle.terms_bytes.proofs.NameTables.{byte_bound, byte_free}
use Rattle.terms_renaming.proofs.Filling.{Filling}
use Rattle.steps_conditions.specs.Slots.{slot_of}
use Rattle.steps_conditions.specs.Names.{HasNames, HasNew, Kept, OwnNames, turn, CalledIs, FreeBytes, BoundBytes, TableIs}

pub turn_free : (from to D w : ℕ) → w < from → turn from to D w ≡ w
unfolding turn
turn_free from to D w h = simp (lt-ltb w from h)

pub turn_bound : (from to D w : ℕ) → from ≤ w → w - from < D → turn from to D w ≡ to + (D - 1 - (w - from))
unfolding turn
turn_bound from to D w h l = simp (le-ltb w from h, lt-ltb (w - from) D l)

pub turn-past : (from to D w : ℕ) → from ≤ w → D ≤ w - from → turn from to D w ≡ 0
unfolding turn
turn-past from to D w h l = simp (le-ltb w from h, le-ltb (w - from) D l)

pub turn_small : (from to D w : ℕ) → from ≤ 256 → to + D ≤ 256 → turn from to D w < 256
turn_small from to D w f t = go (ltb w from) refl (ltb (w - from) D) refl
  where
    go : (x : Bool) → ltb w from ≡ x → (y : Bool) → ltb (w - from) D ≡ y → turn from to D w < 256
    go true x y e = rw (turn_free from to D w (ltb-true w from x)) (omega (arith, ltb-true w from x))
    go false x true y =
        let l = ltb-true (w - from) D y in
        rw (turn_bound from to D w (ltb-false w from x) l) (omega arith)
    go false x false y = rw (turn-past from to D w (ltb-false w from x) (ltb-false (w - from) D y)) (omega arith)

-- The slots before i hold themselves, where the flag says so.
unfoldable pub Selves : List ℕ → ℕ → Bool → Type 0
Selves names i same = same ≡ true → (n : ℕ) → n < i → get_or names n 0 ≡ n

pub selves_next : (names : List ℕ) (i : ℕ) (same : Bool) → Selves names i same → Selves names (i + 1) (same && eqb (get_or names i 0) i)
unfolding Selves
selves_next names i true s = λ e n h.
    ⊎_elim (λ (q : n ≡ i). ap (λ (k : ℕ). get_or names k 0) q ∙ eqb-true (get_or names i 0) i e ∙ sym q) (s refl n) (eq-or-lt_of_le {n = n} {m = i} (omega arith))
selves_next names i false s = λ e. let z : ◌≡◌ {A = ℕ} 0 1 = cc in absurd (omega arith)

-- The table for renaming, once the binders' bytes are put behind those of the free names.
unfoldable pub bound_byte : List ℕ → ℕ → ℕ → List ℕ → ℕ → ℕ
bound_byte names D D' table n = cond (ltb n table_names) (get_or table n 0) (turn table_names 128 D' (get_or names (table_names + (D - 1 - (n - table_names))) 0))

pub bound_start : (names : List ℕ) (D D' : ℕ) (table : List ℕ) → Filling (bound_byte names D D' table) table table (table_names + 0)
unfolding bound_byte
bound_start names D D' table = record { done = λ n h. sym (simp (lt-ltb n table_names (omega arith))); rest = λ n h. refl; len = refl }

pub bound_byte_lem : (names : List ℕ) (D D' : ℕ) (table : List ℕ) (j : ℕ)
    → turn table_names 128 D' (get_or names (table_names + (D - 1 - j)) 0) ≡ bound_byte names D D' table (table_names + j)
unfolding bound_byte
bound_byte_lem names D D' table j =
    let e : table_names + j - table_names ≡ j = omega arith in
    rw (le-ltb (table_names + j) table_names (omega arith), e) refl

pub bound_done : (names : List ℕ) (D D' : ℕ) (table table' : List ℕ) (j : ℕ) → D ≤ j → Filling (bound_byte names D D' table) table table' (table_names + j)
    → BoundBytes names D D' table table'
unfolding bound_byte
bound_done names D D' table table' j h F = record {
  is = λ i l. F.done (table_names + i) (omega arith) ∙ sym (bound_byte_lem names D D' table i);
  kept = λ i l. F.done i (omega arith) ∙ simp (lt-ltb i table_names l);
}

pub table_done : (names : List ℕ) (D D' : ℕ) (none free table : List ℕ) → FreeBytes names D' none free → BoundBytes names D D' free table → TableIs names D D' table
unfolding TableIs
table_done names D D' none free table f b = λ i h. go i h (ltb i table_names) refl
  where
    go : (i : ℕ) → i < table_names + D → (t : Bool) → ltb i table_names ≡ t
        → get_or table i 0 ≡ turn table_names 128 D' (get_or names (turn table_names table_names D i) 0)
    go i h true t = let l = ltb-true i table_names t in rw (turn_free table_names table_names D i l) (b.kept i l ∙ f.is i l)
    go i h false t =
        let l = ltb-false i table_names t in
        let e : table_names + (i - table_names) ≡ i = omega arith in
        rw (turn_bound table_names table_names D i l (omega arith)) (rw e at (b.is (i - table_names) (omega arith)))

-- A binder's slot, and a free name's.
pub slot_bound : (names d n : ℕ) → n < d → slot_of names d n ≡ names + (d - 1 - n)
unfolding slot_of
slot_bound names d n h = simp (lt-ltb n d h)

pub slot_free : (names d n : ℕ) → d ≤ n → slot_of names d n ≡ n - d
unfolding slot_of
slot_free names d n h = simp (le-ltb n d h)

-- Nothing moves beneath a binder.
pub slot_inner : (names d n : ℕ) → slot_of names (1 + d) (suc n) ≡ slot_of names d n
slot_inner names d n = go (ltb n d) refl
  where
    go : (t : Bool) → ltb n d ≡ t → slot_of names (1 + d) (suc n) ≡ slot_of names d n
    go true t =
        let l = ltb-true n d t in
        slot_bound names (1 + d) (suc n) (omega arith) ∙ omega arith ∙ sym (slot_bound names d n l)
    go false t =
        let l = ltb-false n d t in
        slot_free names (1 + d) (suc n) (omega arith) ∙ omega arith ∙ sym (slot_free names d n l)

-- A level that is not there yet is no name's slot.
pub below_level : (D n : ℕ) → n < D + table_names → slot_of table_names D n ≡ table_names + D → ⊥
below_level D n l e = go (ltb n D) refl
  where
    go : (t : Bool) → ltb n D ≡ t → ⊥
    go true t = omega (arith, ltb-true n D t, slot_bound table_names D n (ltb-true n D t))
    go false t = omega (arith, ltb-false n D t, slot_free table_names D n (ltb-false n D t))

-- The slot of a name's byte, and the byte of a name's slot.
pub slot_of_byte : (D m : ℕ) → m < D + table_names → turn 128 table_names D (name_byte D m) ≡ slot_of table_names D m
slot_of_byte D m h = go (ltb m D) refl
  where
    go : (t : Bool) → ltb m D ≡ t → turn 128 table_names D (name_byte D m) ≡ slot_of table_names D m
    go true t =
        let l = ltb-true m D t in
        rw (byte_bound D m l, slot_bound table_names D m l) (turn_bound 128 table_names D (128 + m) (omega arith) (omega arith) ∙ omega arith)
    go false t =
        let l = ltb-false m D t in
        rw (byte_free D m l, slot_free table_names D m l) (turn_free 128 table_names D (m - D) (omega arith))

pub byte_of_slot : (D n : ℕ) → n < D + table_names → turn table_names 128 D (slot_of table_names D n) ≡ name_byte D n
byte_of_slot D n h = go (ltb n D) refl
  where
    go : (t : Bool) → ltb n D ≡ t → turn table_names 128 D (slot_of table_names D n) ≡ name_byte D n
    go true t =
        let l = ltb-true n D t in
        rw (byte_bound D n l, slot_bound table_names D n l)
        (turn_bound table_names 128 D (table_names + (D - 1 - n)) (omega arith) (omega arith) ∙ omega arith)
    go false t =
        let l = ltb-false n D t in
        rw (byte_free D n l, slot_free table_names D n l) (turn_free table_names 128 D (n - D) (omega arith))

slot_of_place : (D m : ℕ) → m < D + table_names → turn table_names table_names D (slot D m) ≡ slot_of table_names D m
unfolding slot
slot_of_place D m h = go (ltb m D) refl
  where
    go : (t : Bool) → ltb m D ≡ t → turn table_names table_names D (slot D m) ≡ slot_of table_names D m
    go true t =
        let l = ltb-true m D t in
        rw (slot_bound table_names D m l, t) (turn_bound table_names table_names D (table_names + m) (omega arith) (omega arith) ∙ omega arith)
    go false t =
        let l = ltb-false m D t in
        rw (slot_free table_names D m l, t) (turn_free table_names table_names D (m - D) (omega arith))

slot_within : (D m : ℕ) → m < D + table_names → slot_of table_names D m < table_names + D
slot_within D m h = go (ltb m D) refl
  where
    go : (t : Bool) → ltb m D ≡ t → slot_of table_names D m < table_names + D
    go true t = omega (arith, ltb-true m D t, slot_bound table_names D m (ltb-true m D t))
    go false t = omega (arith, slot_free table_names D m (ltb-false m D t), ltb-false m D t)

place_within : (D m : ℕ) → m < D + table_names → slot D m < table_names + D
unfolding slot
place_within D m h = go (ltb m D) refl
  where
    go : (t : Bool) → ltb m D ≡ t → slot D m < table_names + D
    go true t = rw t (omega (arith, ltb-true m D t))
    go false t = rw t (omega (arith, ltb-false m D t))

module _ (free D D' : ℕ) (names : List ℕ) (τ : ℕ → ℕ) (has : HasNames free D D' names τ) where
  -- As a table for renaming.
  pub names_represent : (table : List ℕ) → free ≤ table_names → TableIs names D D' table → Represents free D D' table τ
  unfolding HasNames TableIs Represents
  names_represent table few is m h =
      let (e, r) = has m h in (
        is (slot D m) (place_within D m (omega arith))
            ∙ ap (λ (k : ℕ). turn table_names 128 D' (get_or names k 0)) (slot_of_place D m (omega arith))
            ∙ ap (turn table_names 128 D') e ∙ byte_of_slot D' (τ m) r,
        r,
      )

  -- Beneath a binder of these bytes, whose name stands for y.
  pub names_enter : (v y : ℕ) → free ≤ table_names → table_names + D < length names → v ≡ slot_of table_names D' y → y < D' + table_names
      → HasNames free (1 + D) D' (set names (table_names + D) v) (y • τ)
  unfolding HasNames
  names_enter v y few room e r zero h =
      let s : slot_of table_names (1 + D) 0 ≡ table_names + D = slot_bound table_names (1 + D) 0 (omega arith) ∙ omega arith in
      (ap (λ (k : ℕ). get_or (set names (table_names + D) v) k 0) s ∙ get_or-set_same names (table_names + D) v 0 room ∙ e, r)
  names_enter v y few room e r (suc n) h =
      let (f, l) = has n (omega arith) in (
        ap (λ (k : ℕ). get_or (set names (table_names + D) v) k 0) (slot_inner table_names D n)
            ∙ get_or-set_other names (table_names + D) (slot_of table_names D n) v 0 (below_level D n (omega arith)) ∙ f,
        l,
      )

  -- Outside stands one restriction more.
  pub names-beneath : HasNames free D (1 + D') names (λ n. suc (τ n))
  unfolding HasNames
  names-beneath m h = let (e, r) = has m h in (e ∙ sym (slot_inner table_names D' (τ m)), omega arith)

  -- What is kept of the table is enough.
  pub names-kept : (names' : List ℕ) → free ≤ table_names → Kept D names names' → HasNames free D D' names' τ
  unfolding HasNames Kept
  names-kept names' few kept m h = let (e, r) = has m h in (kept (slot_of table_names D m) (slot_within D m (omega arith)) ∙ e, r)

-- Each name stands for itself.
pub names-own : (free D : ℕ) (names : List ℕ) → free ≤ table_names → OwnNames D names → HasNames free D D names (λ n. n)
unfolding HasNames OwnNames
names-own free D names few own m h = (own (slot_of table_names D m) (slot_within D m (omega arith)), omega arith)

-- A free name under D restrictions.
pub new-own : (D x : ℕ) → x < table_names → HasNew D x (D + x)
unfolding HasNew
new-own D x h = (sym (slot_free table_names D (D + x) (omega arith) ∙ omega arith), omega arith)

pub new-beneath : (D' new x : ℕ) → HasNew D' new x → HasNew (1 + D') new (suc x)
unfolding HasNew
new-beneath D' new x has = (has.0 ∙ sym (slot_inner table_names D' x), omega (arith, has.1))

-- What a walk changes of the table: the slots of the binders that it meets.
pub kept-all : (D : ℕ) (names : List ℕ) → Kept D names names
unfolding Kept
kept-all D names k h = refl

pub kept_within : (D v : ℕ) (names names' : List ℕ) → Kept (D + 1) (set names (table_names + D) v) names' → Kept D names names'
unfolding Kept
kept_within D v names names' kept k h = kept k (omega arith) ∙ get_or-set_other names (table_names + D) k v 0 (λ z. omega arith)

pub kept_then : (D : ℕ) (names names₁ names₂ : List ℕ) → Kept D names names₁ → Kept D names₁ names₂ → Kept D names names₂
unfolding Kept
kept_then D names names₁ names₂ f g k h = g k h ∙ f k h

-- The table of a called body, filled one parameter after the other.
pub called-none : (s : List ℕ) (at D : ℕ) (names r : List ℕ) → CalledIs s at 0 D names r
unfolding CalledIs
called-none s at D names r j h = absurd (omega arith)

pub called_more : (s : List ℕ) (at j D : ℕ) (names r : List ℕ) (v : ℕ) → table_names + j < length r
    → v ≡ get_or names (turn 128 table_names D (get_or s (at + j) 0)) 0 → CalledIs s at j D names r → CalledIs s at (j + 1) D names (set r (table_names + j) v)
unfolding CalledIs
called_more s at j D names r v room e is n h = ⊎_elim
    (λ q. ap (λ (k : ℕ). get_or (set r (table_names + j) v) (table_names + k) 0) q ∙ get_or-set_same r (table_names + j) v 0 room ∙ e
    ∙ ap (λ (k : ℕ). get_or names (turn 128 table_names D (get_or s (at + k) 0)) 0) (sym q))
    (λ q. get_or-set_other r (table_names + j) (table_names + n) v 0 (λ z. omega arith) ∙ is n q)
    (eq-or-lt_of_le {n = n} {m = j} (omega arith))
