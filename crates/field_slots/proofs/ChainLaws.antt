-- The chains of the buckets: a key is found along them, and what keeps them. Assumes nothing.
use mathlib.Core.Path.{◌≡◌, refl, sym, ap, subst, ◌∙◌}
use mathlib.Core.Bool.{Bool, true, false, cond}
use mathlib.Core.List.{List}
use mathlib.Core.Logic.{⊎_elim}
use Prim.Native.Nat.{ℕ, zero, suc, ◌+◌, ◌-◌, ◌*◌, ◌/◌, ◌%◌, ◌<◌, ◌≤◌}
use native.Mathlib.Decide.{dec_lt}
use native.Mathlib.Nat.{eq-or-lt_of_le, mod-lt}
use native.Mathlib.Numerals.{add-one}
use native.Mathlib.Omega.{arith}
use borrow.Author.Tests.{eqb-true, eqb-false, eq-eqb, ne_eqb}
use lib.Dec.{eqb}
use lib.ListN.{length, get_or, take, drop, set, length-set, length-take, length-drop}
use lib.Seq.{sets, length-sets, take-take, get_or-set_same, get_or-set_other, drop-set-lt, get_or-take, ext_get_or}
use Rattle.std.specs.Prelude.{Some, None}
use Rattle.terms_bytes.specs.FieldPlaces.{size_at}
use Rattle.terms_bytes.proofs.Stores.{span, get_d_span}
use Rattle.steps_entries.proofs.Moves.{get_d_before, get_d_behind}
use Rattle.field_slots.specs.Chains.{word_at, folded, mixed, rounds, rounds_to, pair_rounds, spread, bucket_of, bucket_at, BucketIs, head_place, link_place, head_at, next_at, put_number, last_with, last_in, Chained, KeepsKeys, LinkIs, FindsIn}
use Rattle.field_slots.specs.Key.{key_at, SameKeyIs, FoundIs}
use Rattle.field_slots.specs.Noted.{noted_count, note_place, note_at}
use Rattle.field_pairs.specs.Slot.{key_bytes, slot_bytes, part_room, head_byte, link_byte, note_byte}
use Rattle.field_slots.proofs.KeyLaws.{found_at, other-slot}

-- Sixteen bytes more.
pub mixed_is : (h : ℕ) (key : List ℕ) (at a b c d : ℕ) → a ≡ word_at key at → b ≡ word_at key (at + 4) → c ≡ word_at key (at + 8) → d ≡ word_at key (at + 12)
    → folded (h * 252097829 + a * 261828187 + b * 141421387 + c * 173205089 + d * 223606807) ≡ mixed h key at
unfolding mixed
mixed_is h key at a b c d p q r s = rw (p, q, r, s)

pub rounds_next : (h : ℕ) (key : List ℕ) (i n x r : ℕ) → x ≡ rounds h key i n → r ≡ mixed x key (16 * (i + n)) → r ≡ rounds h key i (n + 1)
unfolding rounds
rounds_next h key i n x r e f = f ∙ rw (add-one, e)

pub rounds-whole : (h : ℕ) (key : List ℕ) (i n k x : ℕ) → k ≡ n → x ≡ rounds h key i k → x ≡ rounds h key i n
rounds-whole h key i n k x q e = e ∙ ap (rounds h key i) q

pub spread_is : (key : List ℕ) (n first m both r : ℕ) → n ≡ rounds_to (get_or key 0 0) → first ≡ rounds (get_or key (key_bytes - 1) 0) key 0 n
    → m ≡ rounds_to (get_or key part_room 0 + 1) → both ≡ rounds first key 7 m → r ≡ rounds both key 14 pair_rounds → r ≡ spread key
unfolding spread
spread_is key n first m both r p e q f g = rw (← p, ← e, ← q, ← f) g

-- Only the bytes of the key are taken in.
word_front : (key : List ℕ) (at : ℕ) → at + 4 ≤ key_bytes → word_at (take key_bytes key) at ≡ word_at key at
unfolding word_at
word_front key at h =
    rw (
      get_or-take key_bytes key at 0 (omega arith),
      get_or-take key_bytes key (at + 1) 0 (omega arith),
      get_or-take key_bytes key (at + 2) 0 (omega arith),
      get_or-take key_bytes key (at + 3) 0 (omega arith),
    )

mixed-front : (h : ℕ) (key : List ℕ) (at : ℕ) → at + 16 ≤ key_bytes → mixed h (take key_bytes key) at ≡ mixed h key at
unfolding mixed
mixed-front h key at l =
    rw (
      word_front key at (omega arith),
      word_front key (at + 4) (omega arith),
      word_front key (at + 8) (omega arith),
      word_front key (at + 12) (omega arith),
    )

rounds-front : (h : ℕ) (key : List ℕ) (i n : ℕ) → 16 * (i + n) ≤ key_bytes → rounds h (take key_bytes key) i n ≡ rounds h key i n
unfolding rounds
rounds-front h key i zero l = refl
rounds-front h key i (suc n) l =
    mixed-front (rounds h (take key_bytes key) i n) key (16 * (i + n)) (omega arith) ∙ ap (λ x. mixed x key (16 * (i + n))) (rounds-front h key i n (omega arith))

spread-front : (key : List ℕ) → spread (take key_bytes key) ≡ spread key
unfolding spread
spread-front key =
    let first : ℕ = rounds (get_or key (key_bytes - 1) 0) key 0 (rounds_to (get_or key 0 0)) in
    rw (
      get_or-take key_bytes key (key_bytes - 1) 0 (omega arith),
      get_or-take key_bytes key 0 0 (omega arith),
      get_or-take key_bytes key part_room 0 (omega arith),
      rounds-front (get_or key (key_bytes - 1) 0) key 0 (rounds_to (get_or key 0 0)) (omega arith),
      rounds-front first key 7 (rounds_to (get_or key part_room 0 + 1)) (omega arith),
    )
    (rounds-front (rounds first key 7 (rounds_to (get_or key part_room 0 + 1))) key 14 pair_rounds (omega arith))

-- The bucket of the key that bytes begin with, as the code makes it.
pub bucket_is : (capacity : ℕ) (key : List ℕ) → 1 ≤ capacity → (h : ℕ) → h ≡ spread key → BucketIs capacity (take key_bytes key) (h % capacity)
unfolding bucket_of
bucket_is capacity key pos h e = record {
  is = ap (λ n. n % capacity) (e ∙ sym (spread-front key));
  within = mod-lt h pos;
}

-- Two bytes.
pub length-put : (work : List ℕ) (at n : ℕ) → length (put_number work at n) ≡ length work
unfolding put_number
length-put work at n = simp length-set

pub byte_put : (work : List ℕ) (at n k : ℕ) → (k ≡ at → ⊥) → (k ≡ at + 1 → ⊥) → get_or (put_number work at n) k 0 ≡ get_or work k 0
unfolding put_number
byte_put work at n k f g = get_or-set_other (set work at (n / 256)) (at + 1) k (n % 256) 0 g ∙ get_or-set_other work at k (n / 256) 0 f

pub size-put : (work : List ℕ) (at n : ℕ) → at + 1 < length work → size_at (put_number work at n) at ≡ n
unfolding put_number size_at
size-put work at n l =
    let a : get_or (set (set work at (n / 256)) (at + 1) (n % 256)) at 0 ≡ n / 256 = get_or-set_other (set work at (n / 256)) (at + 1) at (n % 256) 0 (λ z. omega arith) ∙ get_or-set_same work at (n / 256) 0 (omega arith) in
    let b : get_or (set (set work at (n / 256)) (at + 1) (n % 256)) (at + 1) 0 ≡ n % 256 = get_or-set_same (set work at (n / 256)) (at + 1) (n % 256) 0 (omega (arith, length-set work at (n / 256))) in
    rw (a, b) (omega arith)

pub size_same : (work work' : List ℕ) (at : ℕ) → get_or work' at 0 ≡ get_or work at 0 → get_or work' (at + 1) 0 ≡ get_or work (at + 1) 0 → size_at work' at ≡ size_at work at
unfolding size_at
size_same work work' at a b = rw (a, b)

size-other : (work : List ℕ) (at n k : ℕ) → (k ≡ at → ⊥) → (k ≡ at + 1 → ⊥) → (k + 1 ≡ at → ⊥) → size_at (put_number work at n) k ≡ size_at work k
size-other work at n k f g h = size_same work (put_number work at n) k (byte_put work at n k f g) (byte_put work at n (k + 1) h (λ z. f (omega arith)))

-- Another head, and links and heads.
head_other : (work : List ℕ) (b c n : ℕ) → (c ≡ b → ⊥) → head_at (put_number work (head_place b) n) c ≡ head_at work c
head_other work b c n k = size-other work (head_place b) n (head_place c) (λ z. k (omega arith)) (λ z. omega arith) (λ z. omega arith)

head_link : (work : List ℕ) (i c n : ℕ) → head_at (put_number work (link_place i) n) c ≡ head_at work c
head_link work i c n = size-other work (link_place i) n (head_place c) (λ z. omega arith) (λ z. omega arith) (λ z. omega arith)

link_head : (work : List ℕ) (b k n : ℕ) → next_at (put_number work (head_place b) n) k ≡ next_at work k
link_head work b k n = size-other work (head_place b) n (link_place k) (λ z. omega arith) (λ z. omega arith) (λ z. omega arith)

link_other : (work : List ℕ) (i k n : ℕ) → (k ≡ i → ⊥) → next_at (put_number work (link_place i) n) k ≡ next_at work k
link_other work i k n f = size-other work (link_place i) n (link_place k) (λ z. f (omega arith)) (λ z. omega arith) (λ z. omega arith)

-- The last one.
module _ (f : ℕ → ℕ) where
  last-here : (n b : ℕ) → f n ≡ b → last_with f (suc n) b ≡ suc n
  unfolding last_with
  last-here n b e = rw (eq-eqb (f n) b e)

  last-other : (n b : ℕ) → (f n ≡ b → ⊥) → last_with f (suc n) b ≡ last_with f n b
  unfolding last_with
  last-other n b k = rw (ne_eqb (f n) b k)

  last_le : (n b : ℕ) → last_with f n b ≤ n
  unfolding last_with
  last_le zero b = omega arith
  last_le (suc n) b = go (eqb (f n) b) (last_le n b)
    where
      go : (t : Bool) → last_with f n b ≤ n → cond t (suc n) (last_with f n b) ≤ suc n
      go true h = omega arith
      go false h = omega arith

  -- behind it there is none
  last-behind : (n b j : ℕ) → last_with f n b ≤ j → j < n → f j ≡ b → ⊥
  last-behind zero b j h l e = omega arith
  last-behind (suc n) b j h l e = go (eqb (f n) b) refl (last-behind n b j)
    where
      go : (t : Bool) → eqb (f n) b ≡ t → (last_with f n b ≤ j → j < n → f j ≡ b → ⊥) → ⊥
      go true q more = omega (arith, last-here n b (eqb-true (f n) b q))
      go false q more =
          ⊎_elim (λ z. eqb-false (f n) b q (ap f (sym z) ∙ e)) (λ m. more (omega (arith, last-other n b (eqb-false (f n) b q))) m e)
          (eq-or-lt_of_le {n = j} {m = n} (omega arith))

  last_is : (n b j : ℕ) → last_with f n b ≡ suc j → f j ≡ b
  unfolding last_with
  last_is zero b j e = absurd (omega arith)
  last_is (suc n) b j e = go (eqb (f n) b) refl (last_is n b j)
    where
      go : (t : Bool) → eqb (f n) b ≡ t → (last_with f n b ≡ suc j → f j ≡ b) → f j ≡ b
      go true q more =
          let z : n ≡ j = omega (arith, e, last-here n b (eqb-true (f n) b q)) in
          rw (← z) (eqb-true (f n) b q)
      go false q more = more (sym (last-other n b (eqb-false (f n) b q)) ∙ e)

  -- where there is none, there is none before
  last-below : (n m b : ℕ) → m ≤ n → last_with f n b ≡ 0 → (j : ℕ) → last_with f m b ≡ suc j → ⊥
  last-below n m b h e j q = last-behind n b j (omega arith) (omega (arith, last_le m b)) (last_is m b j q)

last-same : (f g : ℕ → ℕ) (n b : ℕ) → ((i : ℕ) → i < n → g i ≡ f i) → last_with g n b ≡ last_with f n b
unfolding last_with
last-same f g zero b so = refl
last-same f g (suc n) b so = rw (so n (omega arith), last-same f g n b (λ i l. so i (omega arith)))

-- The search along a chain: what is left of it, if anything, and none of the slots passed has the key.
module _ (capacity : ℕ) (work : List ℕ) (count : ℕ) (key : List ℕ) where
  abbrev sought : ℕ
  sought = bucket_of capacity (take key_bytes key)

  abbrev pub Searching : ℕ → ℕ → Type 0
  Searching link left =
      Chained capacity work count
      → ((j : ℕ) → last_in capacity work left sought ≡ suc j → link ≡ suc j) × ((j : ℕ) → left ≤ j → j < count → key_at work j ≡ take key_bytes key → ⊥)

  pub search_start : (b link : ℕ) → BucketIs capacity (take key_bytes key) b → link ≡ head_at work b → Searching link count
  search_start b link B e C =
      (λ j q. e ∙ C.heads b B.within j (ap (last_in capacity work count) B.is ∙ q), λ j l k. absurd (omega arith))

  -- no slot of the bucket comes before `left`
  search_over : (left : ℕ) → (Chained capacity work count → (j : ℕ) → last_in capacity work left sought ≡ suc j → ⊥)
      → (Chained capacity work count → (j : ℕ) → left ≤ j → j < count → key_at work j ≡ take key_bytes key → ⊥) → FindsIn capacity work count key None
  unfolding FoundIs last_in bucket_at
  search_over left none passed = record {
    within = λ i e. let z : ◌≡◌ {A = ℕ} 0 1 = cc in absurd (omega arith);
    is = λ C j l e. go C j l e (dec_lt j left);
  }
    where
      zero_last : Chained capacity work count → (n : ℕ) → last_with (bucket_at capacity work) left sought ≡ n → last_with (bucket_at capacity work) left sought ≡ 0
      zero_last C zero q = q
      zero_last C (suc n) q = absurd (none C n q)

      go : Chained capacity work count → (j : ℕ) → j < count → key_at work j ≡ take key_bytes key → Dec (j < left) → ⊥
      go C j l e (yes m) = last-behind (bucket_at capacity work) left sought j (omega (arith, zero_last C _ refl)) m (ap (bucket_of capacity) e)
      go C j l e (no m) = passed C j (omega arith) l e

  pub search_end : (link left : ℕ) → link ≤ 0 → Searching link left → FindsIn capacity work count key None
  search_end link left h so = search_over left (λ C j q. omega (arith, (so C).0 j q)) (λ C. (so C).1)

  -- the link is that of no slot before `left`
  pub search_broken : (link left : ℕ) → left < link → Searching link left → FindsIn capacity work count key None
  unfolding last_in
  search_broken link left h so = search_over left (λ C j q. omega (arith, (so C).0 j q, q, last_le (bucket_at capacity work) left sought)) (λ C. (so C).1)

  pub search_found : (left : ℕ) (r : Bool) → left < count → r ≡ true → SameKeyIs work (slot_bytes * left) key r → FindsIn capacity work count key (Some left)
  search_found left r l q h = record { within = λ i e. let z : left ≡ i = cc in omega arith; is = λ C. found_at work count key left r l q h }

  pub search_next : (link left : ℕ) (r : Bool) (next : ℕ) → 0 < link → link ≤ left → left ≤ count → r ≡ false
      → SameKeyIs work (slot_bytes * (link - 1)) key r → next ≡ next_at work (link - 1) → Searching link left → Searching next (link - 1)
  unfolding last_in bucket_at
  search_next link left r next pos h lc q same e so C = go (last_with (bucket_at capacity work) left sought) refl
    where
      -- the slots from this one on, if none behind it before `left` is in the bucket
      passed : last_with (bucket_at capacity work) left sought ≤ link → (j : ℕ) → link - 1 ≤ j → j < count → key_at work j ≡ take key_bytes key → ⊥
      passed few j l m k = go (dec_lt j left)
        where
          go : Dec (j < left) → ⊥
          go (yes n) =
              ⊎_elim (λ (z : link - 1 ≡ j). other-slot work key (link - 1) r q same (ap (key_at work) z ∙ k))
              (λ n'. last-behind (bucket_at capacity work) left sought j (omega arith) n (ap (bucket_of capacity) k))
              (eq-or-lt_of_le {n = link - 1} {m = j} l)
          go (no n) = (so C).1 j (omega arith) m k

      go : (n : ℕ) → last_with (bucket_at capacity work) left sought ≡ n
          → ((j : ℕ) → last_in capacity work (link - 1) sought ≡ suc j → next ≡ suc j)
          × ((j : ℕ) → link - 1 ≤ j → j < count → key_at work j ≡ take key_bytes key → ⊥)
      go zero z = (λ j d. absurd (last-below (bucket_at capacity work) left (link - 1) sought (omega arith) z j d), passed (omega arith))
      go (suc n) z =
          let at : link ≡ suc n = (so C).0 n z in
          let here : bucket_at capacity work (link - 1) ≡ sought = last_is (bucket_at capacity work) left sought (link - 1) (z ∙ omega arith) in
          (λ j d. e ∙ C.nexts (link - 1) (omega arith) j (ap (last_in capacity work (link - 1)) here ∙ d), passed (omega arith))

-- What the keys and the links of an area are, another has.
key_kept : (work work' : List ℕ) (i : ℕ) → length work' ≡ length work
    → ((j : ℕ) → j < key_bytes → get_or work' (slot_bytes * i + j) 0 ≡ get_or work (slot_bytes * i + j) 0) → key_at work' i ≡ key_at work i
unfolding key_at
key_kept work work' i n so =
    ext_get_or 0 (span work' (slot_bytes * i) key_bytes) (span work (slot_bytes * i) key_bytes) (simp (length-take, length-drop, n))
    (λ j l.
    let m : j < key_bytes = omega (arith, simp length-take at l) in
    get_d_span work' (slot_bytes * i) key_bytes j m ∙ so j m ∙ sym (get_d_span work (slot_bytes * i) key_bytes j m))

module _ (capacity : ℕ) (work work' : List ℕ) where
  last-kept : (n b : ℕ) → ((i : ℕ) → i < n → key_at work' i ≡ key_at work i) → last_in capacity work' n b ≡ last_in capacity work n b
  unfolding last_in bucket_at
  last-kept n b so = last-same (bucket_at capacity work) (bucket_at capacity work') n b (λ i l. ap (bucket_of capacity) (so i l))

  bucket_kept : (i : ℕ) → key_at work' i ≡ key_at work i → bucket_at capacity work' i ≡ bucket_at capacity work i
  unfolding bucket_at
  bucket_kept i e = ap (bucket_of capacity) e

  pub chained_kept : (count : ℕ) → ((i : ℕ) → i < count → key_at work' i ≡ key_at work i)
      → ((i j : ℕ) → head_byte ≤ j → j < note_byte → get_or work' (slot_bytes * i + j) 0 ≡ get_or work (slot_bytes * i + j) 0) → Chained capacity work count
      → Chained capacity work' count
  chained_kept count keys links C = record {
    heads = λ b l j e. size head_byte b (omega arith) (omega arith) ∙ C.heads b l j (sym (last-kept count b keys) ∙ e);
    nexts = λ i l j e.
        size link_byte i (omega arith) (omega arith)
        ∙ C.nexts i l j (sym (last-kept i (bucket_at capacity work i) (λ k m. keys k (omega arith))) ∙ ap (last_in capacity work' i) (sym (bucket_kept i (keys i l))) ∙ e);
  }
    where
      size : (j i : ℕ) → head_byte ≤ j → j + 1 < note_byte → size_at work' (slot_bytes * i + j) ≡ size_at work (slot_bytes * i + j)
      size j i h l =
          let z : slot_bytes * i + (j + 1) ≡ slot_bytes * i + j + 1 = omega arith in
          size_same work work' (slot_bytes * i + j) (links i j h (omega arith)) (rw (← z) (links i (j + 1) (omega arith) l))

-- The byte behind a key may change.
pub key_flag : (work : List ℕ) (i v k : ℕ) → key_at (set work (slot_bytes * i + key_bytes) v) k ≡ key_at work k
key_flag work i v k =
    key_kept work (set work (slot_bytes * i + key_bytes) v) k (length-set work (slot_bytes * i + key_bytes) v)
    (λ j m. get_or-set_other work (slot_bytes * i + key_bytes) (slot_bytes * k + j) v 0 (λ z. omega arith))

pub chained_flag : (capacity : ℕ) (work : List ℕ) (count i v : ℕ) → Chained capacity work count
    → Chained capacity (set work (slot_bytes * i + key_bytes) v) count
chained_flag capacity work count i v =
    chained_kept capacity work (set work (slot_bytes * i + key_bytes) v) count (λ k l. key_flag work i v k)
    (λ k j h l. get_or-set_other work (slot_bytes * i + key_bytes) (slot_bytes * k + j) v 0 (λ z. omega arith))

-- A slot that is not counted may get its key and the byte behind it.
pub chained_slot : (capacity : ℕ) (work : List ℕ) (count : ℕ) (xs : List ℕ) → length xs ≤ head_byte → Chained capacity work count
    → Chained capacity (sets work (slot_bytes * count) xs) count
chained_slot capacity work count xs h =
    chained_kept capacity work (sets work (slot_bytes * count) xs) count
    (λ k l. key_kept work (sets work (slot_bytes * count) xs) k (length-sets work (slot_bytes * count) xs)
    (λ j m. get_d_before work (slot_bytes * k + j) (slot_bytes * count) xs (omega arith)))
    links
  where
    links : (k j : ℕ) → head_byte ≤ j → j < note_byte → get_or (sets work (slot_bytes * count) xs) (slot_bytes * k + j) 0 ≡ get_or work (slot_bytes * k + j) 0
    links k j lo hi = go (dec_lt k count)
      where
        go : Dec (k < count) → get_or (sets work (slot_bytes * count) xs) (slot_bytes * k + j) 0 ≡ get_or work (slot_bytes * k + j) 0
        go (yes l) = get_d_before work (slot_bytes * k + j) (slot_bytes * count) xs (omega arith)
        go (no l) = get_d_behind work (slot_bytes * count) (slot_bytes * k + j) xs (omega arith)

-- A number in a slot's own bytes leaves the keys.
keeps_none : (capacity : ℕ) (work : List ℕ) → KeepsKeys capacity work work
keeps_none capacity work = record { len = refl; slots = λ i j h. refl; rest = refl }

keeps_put : (capacity : ℕ) (work₀ work : List ℕ) (b j n : ℕ) → b < capacity → head_byte ≤ j → j + 1 < slot_bytes → KeepsKeys capacity work₀ work
    → KeepsKeys capacity work₀ (put_number work (slot_bytes * b + j) n)
unfolding put_number
keeps_put capacity work₀ work b j n h lo hi K =
    let p : ℕ = slot_bytes * b + j in
    record {
      len = length-put work p n ∙ K.len;
      slots = λ i k l. byte_put work p n (slot_bytes * i + k) (λ z. omega arith) (λ z. omega arith) ∙ K.slots i k l;
      rest = drop-set-lt (slot_bytes * capacity) (set work p (n / 256)) (p + 1) (n % 256) (omega arith) ∙ drop-set-lt (slot_bytes * capacity) work p (n / 256) (omega arith) ∙ K.rest;
    }

-- and the notes, if it stands before them
pub places_differ : (i j b c : ℕ) → b < c → c < slot_bytes → slot_bytes * i + b ≡ slot_bytes * j + c → ⊥
places_differ i j b c l h e = go (dec_lt j i)
  where
    go : Dec (j < i) → ⊥
    go (yes k) = omega arith
    go (no k) = omega arith

note_put : (work : List ℕ) (b at n j k : ℕ) → at + 1 < note_byte → k < noted_count → note_at (put_number work (slot_bytes * b + at) n) j k ≡ note_at work j k
note_put work b at n j k h g =
    let p : ℕ = slot_bytes * b + at in
    size_same work (put_number work p n) (note_place j k)
    (byte_put work p n (note_place j k) (λ z. places_differ b j at (note_byte + 2 * k) (omega arith) (omega arith) (omega arith))
    (λ z. places_differ b j (at + 1) (note_byte + 2 * k) (omega arith) (omega arith) (omega arith)))
    (byte_put work p n (note_place j k + 1) (λ z. places_differ b j at (note_byte + 1 + 2 * k) (omega arith) (omega arith) (omega arith))
    (λ z. places_differ b j (at + 1) (note_byte + 1 + 2 * k) (omega arith) (omega arith) (omega arith)))

pub keeps_key : (capacity : ℕ) (work work' : List ℕ) → KeepsKeys capacity work work' → (i : ℕ) → key_at work' i ≡ key_at work i
keeps_key capacity work work' K i = key_kept work work' i K.len (λ j l. K.slots i j (omega arith))

-- At first there is nothing to chain.
pub chained_none : (capacity : ℕ) (work : List ℕ) → Chained capacity work 0
unfolding last_in last_with
chained_none capacity work = record { heads = λ b l j e. absurd (omega arith); nexts = λ i l. absurd (omega arith) }

-- A slot put at the head of its bucket.
module _ (capacity : ℕ) (work : List ℕ) (i b : ℕ) (l : i < capacity) (small : capacity ≤ 4096) (fits : slot_bytes * capacity ≤ length work)
    (B : BucketIs capacity (key_at work i) b) where
  abbrev work₁ : List ℕ
  work₁ = put_number work (link_place i) (head_at work b)

  abbrev work' : List ℕ
  work' = put_number work₁ (head_place b) (i + 1)

  linked_keeps : KeepsKeys capacity work work'
  linked_keeps =
      keeps_put capacity work work₁ b head_byte (i + 1) B.within (omega arith) (omega arith)
      (keeps_put capacity work work i link_byte (head_at work b) l (omega arith) (omega arith) (keeps_none capacity work))

  linked_notes : (j k : ℕ) → k < noted_count → note_at work' j k ≡ note_at work j k
  linked_notes j k g =
      note_put work₁ b head_byte (i + 1) j k (omega arith) g ∙ note_put work i link_byte (head_at work b) j k (omega arith) g

  linked_last : (n c : ℕ) → last_in capacity work' n c ≡ last_in capacity work n c
  linked_last n c = last-kept capacity work work' n c (λ k m. keeps_key capacity work work' linked_keeps k)

  linked_bucket : (k : ℕ) → bucket_at capacity work' k ≡ bucket_at capacity work k
  linked_bucket k = bucket_kept capacity work work' k (keeps_key capacity work work' linked_keeps k)

  own_bucket : bucket_at capacity work i ≡ b
  unfolding bucket_at
  own_bucket = sym B.is

  linked_head : (C : Chained capacity work i) (c : ℕ) → c < capacity → (j : ℕ) → last_in capacity work (suc i) c ≡ suc j → (t : Bool) → eqb c b ≡ t
      → head_at work' c ≡ suc j
  unfolding last_in
  linked_head C c m j e true q =
      let z : c ≡ b = eqb-true c b q in
      let n : suc i ≡ suc j = sym (last-here (bucket_at capacity work) i c (own_bucket ∙ sym z)) ∙ e in
      rw z (size-put work₁ (head_place b) (i + 1) (omega (arith, B.within, length-put work (link_place i) (head_at work b))) ∙ add-one i ∙ n)
  linked_head C c m j e false q =
      let n : c ≡ b → ⊥ = eqb-false c b q in
      head_other work₁ b c (i + 1) n ∙ head_link work i c (head_at work b)
      ∙ C.heads c m j (sym (last-other (bucket_at capacity work) i c (λ e. n (sym e ∙ own_bucket))) ∙ e)

  linked_next : (C : Chained capacity work i) (k : ℕ) → k < i + 1 → (j : ℕ) → last_in capacity work k (bucket_at capacity work k) ≡ suc j → (t : Bool) → eqb k i ≡ t
      → next_at work' k ≡ suc j
  linked_next C k m j e true q =
      let z : k ≡ i = eqb-true k i q in
      let at : last_in capacity work i b ≡ suc j = ap (last_in capacity work i) (sym own_bucket) ∙ subst (λ n. last_in capacity work n (bucket_at capacity work n) ≡ suc j) z e in
      ap (next_at work') z ∙ link_head work₁ b i (i + 1) ∙ size-put work (link_place i) (head_at work b) (omega arith) ∙ C.heads b B.within j at
  linked_next C k m j e false q =
      let n : k ≡ i → ⊥ = eqb-false k i q in
      link_head work₁ b k (i + 1) ∙ link_other work i k (head_at work b) n ∙ C.nexts k (omega arith) j e

  linked : LinkIs capacity work i work'
  linked = record {
    chained = λ C. record {
      heads = λ c m j e. linked_head C c m j (sym (linked_last (suc i) c) ∙ ap (λ n. last_in capacity work' n c) (sym (add-one i)) ∙ e) (eqb c b) refl;
      nexts = λ k m j e. linked_next C k m j (sym (linked_last k (bucket_at capacity work k)) ∙ ap (last_in capacity work' k) (sym (linked_bucket k)) ∙ e) (eqb k i) refl;
    };
    keeps = linked_keeps;
    notes = linked_notes;
  }

-- as the code does it
pub link_is : (capacity : ℕ) (work : List ℕ) (i b last : ℕ) (w₁ w₂ : List ℕ) → i < capacity → capacity ≤ 4096 → slot_bytes * capacity ≤ length work
    → BucketIs capacity (take key_bytes (take (length work - slot_bytes * i) (drop (slot_bytes * i) work))) b → last ≡ head_at work b
    → w₁ ≡ put_number work (link_place i) last → w₂ ≡ put_number w₁ (head_place b) (i + 1) → LinkIs capacity work i w₂
unfolding key_at
link_is capacity work i b last w₁ w₂ l small fits B e₀ e₁ e₂ =
    let k : take key_bytes (take (length work - slot_bytes * i) (drop (slot_bytes * i) work)) ≡ key_at work i = take-take key_bytes (length work - slot_bytes * i) (drop (slot_bytes * i) work) (omega arith) in
    rw (e₂, e₁, e₀) (linked capacity work i b l small fits (rw k at B))
