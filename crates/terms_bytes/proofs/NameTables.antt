-- A table that has a renaming has it beneath the term's own binders too. Assumes nothing.
use mathlib.Core.Path.{◌≡◌, refl, sym, ap, ◌∙◌}
use mathlib.Core.Bool.{Bool, true, false}
use mathlib.Core.List.{List, [], ◌∷◌, map}
use Prim.Native.Nat.{ℕ, zero, suc, ◌+◌, ◌-◌, ◌<◌, ◌≤◌}
use native.Mathlib.Nat.{add-zero, zero-add, sub-zero}
use native.Mathlib.Omega.{arith}
use lib.ListN.{get_or}
use lib.Dec.{ltb}
use borrow.Author.Tests.{ltb-true, ltb-false, lt-ltb, le-ltb}
use Rattle.calculus.specs.Term.{lift}
use Rattle.terms.specs.Limits.{name_count}
use Rattle.terms_bytes.specs.NameTable.{table_names}
use Rattle.terms.specs.Encoding.{name_byte, NamesInScope}
use Rattle.terms_bytes.specs.NameTable.{slot, Represents, beneath, renamed_byte, RepresentsBeneath}

-- The byte of a binder, and of a free name.
pub byte_bound : (d n : ℕ) → n < d → name_byte d n ≡ 128 + n
unfolding name_byte
byte_bound d n h = simp (lt-ltb n d h)

pub byte_free : (d n : ℕ) → d ≤ n → name_byte d n ≡ n - d
unfolding name_byte
byte_free d n h = simp (le-ltb n d h)

pub byte_small : (d n : ℕ) → d ≤ 128 → n < d + table_names → name_byte d n < 256
byte_small d n hd hn = go (ltb n d) refl
  where
    go : (t : Bool) → ltb n d ≡ t → name_byte d n < 256
    go true e = rw (byte_bound d n (ltb-true n d e)) (omega (arith, ltb-true n d e))
    go false e = rw (byte_free d n (ltb-false n d e)) (omega (arith, ltb-false n d e))

-- A name's byte is the binder's exactly if it is not below 128.
bound_of_byte : (d n b : ℕ) → n < d + table_names → b ≡ name_byte d n → 128 ≤ b → (n < d) × (b ≡ 128 + n)
bound_of_byte d n b hn e hb = go (ltb n d) refl
  where
    go : (t : Bool) → ltb n d ≡ t → (n < d) × (b ≡ 128 + n)
    go true t = (ltb-true n d t, e ∙ byte_bound d n (ltb-true n d t))
    go false t = absurd (omega (arith, ltb-false n d t, e ∙ byte_free d n (ltb-false n d t)))

free_of_byte : (d n b : ℕ) → b ≡ name_byte d n → b < 128 → (d ≤ n) × (b ≡ n - d)
free_of_byte d n b e hb = go (ltb n d) refl
  where
    go : (t : Bool) → ltb n d ≡ t → (d ≤ n) × (b ≡ n - d)
    go true t = absurd (omega (arith, e ∙ byte_bound d n (ltb-true n d t)))
    go false t = (ltb-false n d t, e ∙ byte_free d n (ltb-false n d t))

pub beneath_free : (inner b : ℕ) → b < 128 → beneath inner b ≡ b
unfolding beneath
beneath_free inner b h = simp (lt-ltb b 128 h)

beneath_bound : (inner b : ℕ) → 128 ≤ b → b + inner < 256 → beneath inner b ≡ b + inner
unfolding beneath
beneath_bound inner b h k = simp (le-ltb b 128 h, lt-ltb (b + inner) 256 k)

beneath-none : (inner b : ℕ) → 128 ≤ b → 256 ≤ b + inner → beneath inner b ≡ 0
unfolding beneath
beneath-none inner b h k = simp (le-ltb b 128 h, le-ltb (b + inner) 256 k)

-- What a byte of the table is one binder further in.
deeper : (inner d b n : ℕ) → d < 128 → n < d + table_names → beneath inner b ≡ name_byte d n → beneath (1 + inner) b ≡ name_byte (1 + d) (suc n)
deeper inner d b n hd hn e = go (ltb b 128) refl (ltb (b + inner) 256) refl
  where
    go : (t : Bool) → ltb b 128 ≡ t → (u : Bool) → ltb (b + inner) 256 ≡ u → beneath (1 + inner) b ≡ name_byte (1 + d) (suc n)
    go true t u v =
        let l = ltb-true b 128 t in
        let (le, q) = free_of_byte d n b (sym (beneath_free inner b l) ∙ e) l in
        beneath_free (1 + inner) b l ∙ q ∙ sym (byte_free (1 + d) (suc n) (omega arith) ∙ omega arith)
    go false t true v =
        let l = ltb-false b 128 t in
        let k = ltb-true (b + inner) 256 v in
        let (lt, q) = bound_of_byte d n (b + inner) hn (sym (beneath_bound inner b l k) ∙ e) (omega arith) in
        beneath_bound (1 + inner) b l (omega arith) ∙ omega (arith, byte_bound (1 + d) (suc n) (omega arith))
    go false t false v =
        let l = ltb-false b 128 t in
        let k = ltb-false (b + inner) 256 v in
        let (le, q) = free_of_byte d n 0 (sym (beneath-none inner b l k) ∙ e) (omega arith) in
        beneath-none (1 + inner) b l (omega arith) ∙ omega (arith, byte_free (1 + d) (suc n) (omega arith))

-- The three kinds of name bytes: free, of the term's own binders, of an outer binder.
pub renamed_free : (inner : ℕ) (table : List ℕ) (b : ℕ) → b < 128 → renamed_byte inner table b ≡ beneath inner (get_or table b 0)
unfolding renamed_byte
renamed_free inner table b h = simp (lt-ltb b 128 h)

renamed-own : (inner : ℕ) (table : List ℕ) (n : ℕ) → n < inner → renamed_byte inner table (128 + n) ≡ 128 + n
unfolding renamed_byte
renamed-own inner table n h = simp (le-ltb (128 + n) 128 (omega arith), lt-ltb (128 + n - 128) inner (omega arith))

renamed_outer : (inner : ℕ) (table : List ℕ) (n : ℕ) → inner ≤ n
    → renamed_byte inner table (128 + n) ≡ beneath inner (get_or table (table_names + (n - inner)) 0)
unfolding renamed_byte
renamed_outer inner table n h =
    let s : table_names + (128 + n - 128 - inner) ≡ table_names + (n - inner) = omega arith in
    simp (le-ltb (128 + n) 128 (omega arith), le-ltb (128 + n - 128) inner (omega arith), s)

module _ (inner free d d' : ℕ) (table : List ℕ) (ρ : ℕ → ℕ) (few : free ≤ table_names) (rep : RepresentsBeneath inner free d d' table ρ) where
  -- The names of a front, renamed one by one.
  pub renamed-names : (ns : List ℕ) → NamesInScope free d ns → map (renamed_byte inner table) (map (name_byte d) ns) ≡ map (name_byte d') (map ρ ns)
  unfolding NamesInScope RepresentsBeneath
  renamed-names [] h = refl
  renamed-names (n ∷ ns) h = λ i. (rep n h.0).0 i ∷ renamed-names ns h.1 i

  -- Beneath one binder more.
  represents_lift : d' < 128 → RepresentsBeneath (1 + inner) free (1 + d) (1 + d') table (lift ρ)
  unfolding RepresentsBeneath
  represents_lift hd zero h = (
    ap (renamed_byte (1 + inner) table) (byte_bound (1 + d) 0 (omega arith)) ∙ renamed-own (1 + inner) table 0 (omega arith)
        ∙ sym (byte_bound (1 + d') 0 (omega arith)),
    omega arith,
  )
  represents_lift hd (suc n) h =
      let (e, r) = rep n (omega arith) in
      (go e r (ltb n d) refl (ltb n inner) refl, omega arith)
    where
      go : renamed_byte inner table (name_byte d n) ≡ name_byte d' (ρ n) → ρ n < d' + table_names
          → (t : Bool) → ltb n d ≡ t → (u : Bool) → ltb n inner ≡ u
          → renamed_byte (1 + inner) table (name_byte (1 + d) (suc n)) ≡ name_byte (1 + d') (suc (ρ n))
      go e r true t true u =
          let l = ltb-true n d t in
          let k = ltb-true n inner u in
          let (lt, q) = bound_of_byte d' (ρ n) (128 + n) r (sym (renamed-own inner table n k) ∙ ap (renamed_byte inner table) (sym (byte_bound d n l)) ∙ e) (omega arith) in
          ap (renamed_byte (1 + inner) table) (byte_bound (1 + d) (suc n) (omega arith)) ∙ renamed-own (1 + inner) table (suc n) (omega arith)
          ∙ omega (arith, byte_bound (1 + d') (suc (ρ n)) (omega arith))
      go e r true t false u =
          let l = ltb-true n d t in
          let k = ltb-false n inner u in
          let s : suc n - (1 + inner) ≡ n - inner = omega arith in
          let x = sym (renamed_outer inner table n k) ∙ ap (renamed_byte inner table) (sym (byte_bound d n l)) ∙ e in
          ap (renamed_byte (1 + inner) table) (byte_bound (1 + d) (suc n) (omega arith)) ∙ renamed_outer (1 + inner) table (suc n) (omega arith)
          ∙ ap (λ (k : ℕ). beneath (1 + inner) (get_or table (table_names + k) 0)) s
          ∙ deeper inner d' (get_or table (table_names + (n - inner)) 0) (ρ n) hd r x
      go e r false t u v =
          let l = ltb-false n d t in
          let s : suc n - (1 + d) ≡ n - d = omega arith in
          let x = sym (renamed_free inner table (n - d) (omega arith)) ∙ ap (renamed_byte inner table) (sym (byte_free d n l)) ∙ e in
          ap (renamed_byte (1 + inner) table) (byte_free (1 + d) (suc n) (omega arith) ∙ s) ∙ renamed_free (1 + inner) table (n - d) (omega arith)
          ∙ deeper inner d' (get_or table (n - d) 0) (ρ n) hd r x

-- A renaming taken under b binders.
abbrev pub lift_by : ℕ → (ℕ → ℕ) → ℕ → ℕ
lift_by zero ρ = ρ
lift_by (suc b) ρ = lift (lift_by b ρ)

pub represents_under : (b inner free d d' : ℕ) (table : List ℕ) (ρ : ℕ → ℕ) → free ≤ table_names → d' + b ≤ 128
    → RepresentsBeneath inner free d d' table ρ → RepresentsBeneath (inner + b) free (b + d) (b + d') table (lift_by b ρ)
represents_under zero inner free d d' table ρ few h rep = rw (add-zero, zero-add, zero-add) rep
represents_under (suc b) inner free d d' table ρ few h rep =
    let x : inner + suc b ≡ 1 + (inner + b) = omega arith in
    let y : suc b + d ≡ 1 + (b + d) = omega arith in
    let z : suc b + d' ≡ 1 + (b + d') = omega arith in
    rw (x, y, z)
    (represents_lift (inner + b) free (b + d) (b + d') table (lift_by b ρ) few
    (represents_under b inner free d d' table ρ few (omega arith) rep) (omega arith))

-- The whole term stands beneath none of its binders.
pub represents_whole : (free D D' : ℕ) (table : List ℕ) (ρ : ℕ → ℕ) → free ≤ table_names → D' ≤ 128
    → Represents free D D' table ρ → RepresentsBeneath 0 free D D' table ρ
unfolding Represents RepresentsBeneath slot
represents_whole free D D' table ρ few h rep m lt = (go (ltb m D) refl, (rep m lt).1)
  where
    same : (b : ℕ) → b ≡ name_byte D' (ρ m) → beneath 0 b ≡ name_byte D' (ρ m)
    same b e = at (ltb b 128) refl ∙ e
      where
        small : b < 256
        small = rw e (byte_small D' (ρ m) h (rep m lt).1)

        at : (t : Bool) → ltb b 128 ≡ t → beneath 0 b ≡ b
        at true t = beneath_free 0 b (ltb-true b 128 t)
        at false t = beneath_bound 0 b (ltb-false b 128 t) (omega (arith, small)) ∙ add-zero b

    go : (t : Bool) → ltb m D ≡ t → renamed_byte 0 table (name_byte D m) ≡ name_byte D' (ρ m)
    go true t =
        let l = ltb-true m D t in
        ap (renamed_byte 0 table) (byte_bound D m l) ∙ renamed_outer 0 table m (omega arith)
        ∙ same (get_or table (table_names + (m - 0)) 0) (rw sub-zero (rw t at (rep m lt).0))
    go false t =
        let l = ltb-false m D t in
        ap (renamed_byte 0 table) (byte_free D m l) ∙ renamed_free 0 table (m - D) (omega arith) ∙ same (get_or table (m - D) 0) (rw t at (rep m lt).0)

-- A table of free names alone: what merging and rewriting by a condition need in a part.
pub represents_free : (table : List ℕ) (ρ : ℕ → ℕ) → ((n : ℕ) → n < name_count → (get_or table n 0 ≡ ρ n) × (ρ n < name_count))
    → Represents name_count 0 0 table ρ
unfolding Represents slot name_byte
represents_free table ρ h m lt =
    let (e, r) = h m (omega arith) in
    (simp (le-ltb m 0 (omega arith), le-ltb (ρ m) 0 (omega arith), sub-zero) e, omega arith)
