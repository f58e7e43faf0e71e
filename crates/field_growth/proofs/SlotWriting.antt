-- A key written into a slot: what the slots before it and the bytes behind it hold. Assumes nothing.
use mathlib.Core.Path.{◌≡◌, refl, sym, ap, ◌∙◌}
use mathlib.Core.List.{List, [], ◌∷◌, ◌++◌, append_assoc}
use Prim.Native.Nat.{ℕ, suc, ◌+◌, ◌*◌, ◌<◌, ◌≤◌}
use native.Mathlib.Omega.{arith}
use borrow.Author.Count.{below_more}
use lib.ListN.{length, get_or, take, drop, set, length-append, take-append-drop, get_or-append}
use lib.Seq.{sets, sets-eq, length-sets, length-take-le, drop_at, take_at, get_or_at, drop-set-lt, take-set-le, take-add}
use Rattle.terms_bytes.proofs.Stores.{get_d_front}
use Rattle.calculus.proofs.Membership.{all-++}
use Rattle.steps_entries.proofs.Moves.{get_d_before}
use Rattle.field_slots.specs.Chains.{Chained, LinkIs}
use Rattle.field_successors.specs.Fits.{Fits}
use Rattle.field_growth.specs.Growing.{Fitting, Knows, KeepsStruck}
use Rattle.field_growth.specs.Holding.{SlotsHold}
use Rattle.field_slots.specs.Key.{SituationAt, slot_with, key_at}
use Rattle.field_slots.specs.Noted.{noted_count, note_place, note_at, SpareOnly}
use Rattle.field.specs.Situation.{Situation}
use Rattle.field_pairs.specs.Slot.{key_of, key_bytes, slot_bytes, struck_at}
use Rattle.field_slots.proofs.ChainLaws.{size_same, keeps_key, key_flag, chained_kept, chained_flag, chained_slot}
use Rattle.field_growth.proofs.KeysDiffer.{slot_key}

-- A run of stores leaves what is behind it, and what is before it.
drop-behind : (n : ℕ) (l xs : List ℕ) (p : ℕ) → p + length xs ≤ n → drop n (sets l p xs) ≡ drop n l
drop-behind n l [] p h = refl
drop-behind n l (x ∷ xs) p h = drop-behind n (set l p x) xs (suc p) (omega arith) ∙ drop-set-lt n l p x (omega arith)

take-before : (n : ℕ) (l xs : List ℕ) (p : ℕ) → n ≤ p → take n (sets l p xs) ≡ take n l
take-before n l [] p h = refl
take-before n l (x ∷ xs) p h = take-before n (set l p x) xs (suc p) (omega arith) ∙ take-set-le n l p x h

-- n elements from `at` on are the last of at + n
piece_last : (l : List ℕ) (at n : ℕ) → at ≤ length l → take n (drop at l) ≡ drop at (take (at + n) l)
piece_last l at n h = sym (ap (drop at) (take-add at n l) ∙ drop_at (take at l) (take n (drop at l)) at (length-take-le at l h))

-- the situation whose key stands at a place
key_situation : (area : List ℕ) (at : ℕ) (s : Situation) → Fits s → take key_bytes (drop at area) ≡ key_of s → SituationAt area at s
key_situation area at s f e = record {
  rest = drop key_bytes (drop at area);
  there = sym (take-append-drop key_bytes (drop at area)) ∙ ap (λ l. l ++ drop key_bytes (drop at area)) e;
  first = f.first;
  second = f.second;
}

-- the situations where no key changes
module _ (work work' : List ℕ) (keys : (i : ℕ) → key_at work' i ≡ key_at work i) where
  pub situation-kept : (i : ℕ) (s : Situation) → SituationAt work (slot_bytes * i) s → SituationAt work' (slot_bytes * i) s
  unfolding key_at
  situation-kept i s t = key_situation work' (slot_bytes * i) s (record { first = t.first; second = t.second }) (keys i ∙ slot_key work i s t)

  slots_kept : (ks : List Situation) → SlotsHold work ks → SlotsHold work' ks
  slots_kept ks h = record { held = λ i d l. situation-kept i (get_or ks i d) (h.held i d l) }

-- a situation struck out
pub knows_struck : (arities : List ℕ) (capacity : ℕ) (work : List ℕ) (known : ℕ) (ks : List Situation) (i v : ℕ) → Knows arities capacity work known ks
    → Knows arities capacity (set work (struck_at i) v) known ks
knows_struck arities capacity work known ks i v K = record {
  count = K.count;
  fitting = K.fitting;
  slots = slots_kept work (set work (struck_at i) v) (key_flag work i v) ks K.slots;
  chained = chained_flag capacity work known i v K.chained;
}

-- a number noted
pub knows_noted : (arities : List ℕ) (capacity : ℕ) (work : List ℕ) (known : ℕ) (ks : List Situation) (count : ℕ) (work' : List ℕ) → SpareOnly count work work'
    → Knows arities capacity work known ks → Knows arities capacity work' known ks
knows_noted arities capacity work known ks count work' s K =
    let keys : (i : ℕ) → key_at work' i ≡ key_at work i =
    keeps_key count work work' (record { len = s.len; slots = λ i j h. s.slots i j (omega arith); rest = s.rest count (omega arith) }) in
    record {
      count = K.count;
      fitting = K.fitting;
      slots = slots_kept work work' keys ks K.slots;
      chained = chained_kept capacity work work' known (λ i l. keys i) (λ i j g h. s.slots i j h) K.chained;
    }

module _ (work key : List ℕ) (i : ℕ) (room : slot_bytes * i + slot_bytes ≤ length work) (long : key_bytes ≤ length key) where
  abbrev new : List ℕ
  new = take key_bytes key ++ (0 ∷ [])

  new-length : length new ≡ key_bytes + 1
  new-length = length-append (take key_bytes key) (0 ∷ []) ∙ omega (arith, length-take-le key_bytes key long)

  pub slot-rest : (capacity : ℕ) → i < capacity → (work' : List ℕ) → LinkIs capacity (slot_with work i key) i work'
      → drop (slot_bytes * capacity) work' ≡ drop (slot_bytes * capacity) work
  unfolding slot_with
  slot-rest capacity h work' L = L.keeps.rest ∙ drop-behind (slot_bytes * capacity) work new (slot_bytes * i) (omega (arith, new-length))

  slot-before : (j : ℕ) → j < i → take key_bytes (drop (slot_bytes * j) (slot_with work i key)) ≡ take key_bytes (drop (slot_bytes * j) work)
  unfolding slot_with
  slot-before j h =
      let p : ℕ = slot_bytes * j in
      piece_last (sets work (slot_bytes * i) new) p key_bytes (omega (arith, length-sets work (slot_bytes * i) new))
      ∙ ap (drop p) (take-before (p + key_bytes) work new (slot_bytes * i) (omega arith))
      ∙ sym (piece_last work p key_bytes (omega arith))

  slot-here : drop (slot_bytes * i) (slot_with work i key) ≡ new ++ drop (slot_bytes * i + length new) work
  unfolding slot_with
  slot-here =
      ap (drop (slot_bytes * i)) (sets-eq new work (slot_bytes * i) (omega (arith, new-length))
      ∙ append_assoc (take (slot_bytes * i) work) new (drop (slot_bytes * i + length new) work))
      ∙ drop_at (take (slot_bytes * i) work) (new ++ drop (slot_bytes * i + length new) work) (slot_bytes * i) (length-take-le (slot_bytes * i) work (omega arith))

  slot-now : take key_bytes (drop (slot_bytes * i) (slot_with work i key)) ≡ take key_bytes key
  slot-now =
      ap (take key_bytes) slot-here ∙ ap (take key_bytes) (append_assoc (take key_bytes key) (0 ∷ []) (drop (slot_bytes * i + length new) work))
      ∙ take_at (take key_bytes key) ((0 ∷ []) ++ drop (slot_bytes * i + length new) work) key_bytes (length-take-le key_bytes key long)

  slot-left : get_or (slot_with work i key) (slot_bytes * i + key_bytes) 0 ≡ 0
  slot-left =
      get_d_front (slot_with work i key) (slot_bytes * i) new (drop (slot_bytes * i + length new) work) key_bytes slot-here (omega (arith, new-length))
      ∙ get_or_at (take key_bytes key) 0 [] 0 key_bytes (length-take-le key_bytes key long)

  slot-other : (j : ℕ) → j < i → get_or (slot_with work i key) (slot_bytes * j + key_bytes) 0 ≡ get_or work (slot_bytes * j + key_bytes) 0
  unfolding slot_with
  slot-other j h = get_d_before work (slot_bytes * j + key_bytes) (slot_bytes * i) new (omega arith)

  slot_notes : (j k : ℕ) → j < i → k < noted_count → note_at (slot_with work i key) j k ≡ note_at work j k
  unfolding slot_with
  slot_notes j k h g =
      size_same work (sets work (slot_bytes * i) new) (note_place j k) (get_d_before work (note_place j k) (slot_bytes * i) new (omega arith))
      (get_d_before work (note_place j k + 1) (slot_bytes * i) new (omega arith))

  -- it is left, and the others are as they were
  pub slot_struck : (capacity : ℕ) (work' : List ℕ) → LinkIs capacity (slot_with work i key) i work' → KeepsStruck work i (i + 1) work'
  slot_struck capacity work' L = record {
    kept = λ j h. L.keeps.slots j key_bytes (omega arith) ∙ slot-other j h;
    fresh = λ j h l. let e : i ≡ j = omega arith in L.keeps.slots j key_bytes (omega arith) ∙ rw (← e) slot-left;
    notes = λ j k h g. L.notes j k g ∙ slot_notes j k h g;
  }

  -- One more situation is known.
  module _ (arities : List ℕ) (capacity : ℕ) (ks : List Situation) (known : Knows arities capacity work i ks) (s : Situation) (f : Fitting arities s)
      (e : take key_bytes key ≡ key_of s) where
    abbrev now : List ℕ
    now = slot_with work i key

    abbrev Held : ℕ → Type 0
    Held j = (d : Situation) → SituationAt now (slot_bytes * j) (get_or (ks ++ (s ∷ [])) j d)

    held_before : (j : ℕ) → j < i → Held j
    unfolding key_at
    held_before j h d =
        let l : j < length ks = omega (arith, known.count) in
        let t : SituationAt work (slot_bytes * j) (get_or ks j d) = known.slots.held j d l in
        rw (get_or-append ks (s ∷ []) d j l)
        (key_situation now (slot_bytes * j) (get_or ks j d) (record { first = t.first; second = t.second })
        (slot-before j h ∙ slot_key work j (get_or ks j d) t))

    held_here : Held i
    held_here d = rw (get_or_at ks s [] d i known.count) (key_situation now (slot_bytes * i) s f.fits (slot-now ∙ e))

    count_now : length (ks ++ (s ∷ [])) ≡ i + 1
    count_now = length-append ks (s ∷ []) ∙ omega (arith, known.count)

    slots_now : SlotsHold now (ks ++ (s ∷ []))
    slots_now = record { held = λ j d h. below_more Held i held_before held_here j (omega (arith, count_now)) d }

    chained_now : Chained capacity now i
    unfolding slot_with
    chained_now = chained_slot capacity work i new (omega (arith, new-length)) known.chained

    pub knows_more : (work' : List ℕ) → LinkIs capacity now i work' → Knows arities capacity work' (i + 1) (ks ++ (s ∷ []))
    knows_more work' L = record {
      count = count_now;
      fitting = all-++ (Fitting arities) ks (s ∷ []) known.fitting (f, tt);
      slots = slots_kept now work' (keeps_key capacity now work' L.keeps) (ks ++ (s ∷ [])) slots_now;
      chained = L.chained chained_now;
    }
