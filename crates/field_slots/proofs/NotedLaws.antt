-- Numbers noted in the last bytes of a slot. Assumes nothing.
use mathlib.Core.List.{List}
use mathlib.Core.Logic.{inl, inr, ◌⊎◌}
use mathlib.Core.Path.{◌≡◌, refl, sym, ◌∙◌}
use native.Mathlib.Decide.{ℕ_discrete}
use native.Mathlib.Omega.{arith}
use Prim.Native.Nat.{ℕ, ◌+◌, ◌*◌, ◌/◌, ◌%◌, ◌<◌, ◌≤◌}
use borrow.Author.Count.{below_more}
use lib.ListN.{length, set}
use lib.Seq.{drop-set-lt, get_or-set_other}
use Rattle.field_slots.specs.Chains.{put_number}
use Rattle.field_slots.specs.Noted.{noted_count, note_place, note_at, SpareOnly, OtherNotes, ClearsSlot, NotesOne}
use Rattle.field_pairs.specs.Slot.{slot_bytes, key_bytes, struck_at, note_byte}
use Rattle.field_slots.proofs.ChainLaws.{length-put, byte_put, size-put, size_same, places_differ}

-- A number in a spare place.
module _ (count : ℕ) where
  pub spare_none : (work : List ℕ) → SpareOnly count work work
  spare_none work = record { len = refl; slots = λ i j h. refl; rest = λ k h. refl }

  pub spare_then : (w v u : List ℕ) → SpareOnly count w v → SpareOnly count v u → SpareOnly count w u
  spare_then w v u s t = record {
    len = t.len ∙ s.len;
    slots = λ i j h. t.slots i j h ∙ s.slots i j h;
    rest = λ k h. t.rest k h ∙ s.rest k h;
  }

  pub spare_put : (work₀ work : List ℕ) (i k n : ℕ) → i < count → k < noted_count → SpareOnly count work₀ work
      → SpareOnly count work₀ (put_number work (note_place i k) n)
  unfolding put_number
  spare_put work₀ work i k n h l s =
      let p : ℕ = note_place i k in
      record {
        len = length-put work p n ∙ s.len;
        slots = λ a b g. byte_put work p n (slot_bytes * a + b) (λ z. places_differ a i b (note_byte + 2 * k) (omega arith) (omega arith) (omega arith))
            (λ z. places_differ a i b (note_byte + 1 + 2 * k) (omega arith) (omega arith) (omega arith)) ∙ s.slots a b g;
        rest = λ m g.
            drop-set-lt (slot_bytes * m) (set work p (n / 256)) (p + 1) (n % 256) (omega arith) ∙ drop-set-lt (slot_bytes * m) work p (n / 256) (omega arith)
            ∙ s.rest m g;
      }

pub note_other : (work : List ℕ) (i k n j l : ℕ) → (note_place j l ≡ note_place i k → ⊥) → note_at (put_number work (note_place i k) n) j l ≡ note_at work j l
note_other work i k n j l f =
    size_same work (put_number work (note_place i k) n) (note_place j l)
    (byte_put work (note_place i k) n (note_place j l) f (λ z. omega arith))
    (byte_put work (note_place i k) n (note_place j l + 1) (λ z. omega arith) (λ z. f (omega arith)))

-- The byte that strikes out is no note.
pub note_flag : (work : List ℕ) (i v j k : ℕ) → k < noted_count → note_at (set work (struck_at i) v) j k ≡ note_at work j k
note_flag work i v j k g =
    size_same work (set work (struck_at i) v) (note_place j k)
    (get_or-set_other work (struck_at i) (note_place j k) v 0 (λ z. other (note_byte + 2 * k) (omega arith) (omega arith) (omega arith)))
    (get_or-set_other work (struck_at i) (note_place j k + 1) v 0 (λ z. other (note_byte + 1 + 2 * k) (omega arith) (omega arith) (omega arith)))
  where
    other : (b : ℕ) → key_bytes < b → b < slot_bytes → slot_bytes * j + b ≡ struck_at i → ⊥
    other b lo hi e = places_differ i j key_bytes b lo hi (sym e)

-- clear_slot
pub record Clearing (work₀ : List ℕ) (i : ℕ) (work : List ℕ) (k : ℕ) : Type 0 where
  pub spare : SpareOnly (i + 1) work₀ work
  pub none : (l : ℕ) → l < k → note_at work i l ≡ 0
  pub others : OtherNotes i work₀ work

pub clearing_start : (work : List ℕ) (i : ℕ) → Clearing work i work 0
clearing_start work i = record { spare = spare_none (i + 1) work; none = λ l h. absurd (omega arith); others = λ j f l h. refl }

pub clearing_next : (work₀ : List ℕ) (i : ℕ) (work : List ℕ) (k : ℕ) (work' : List ℕ) → k < noted_count → slot_bytes * (i + 1) ≤ length work
    → work' ≡ put_number work (note_place i k) 0 → Clearing work₀ i work k → Clearing work₀ i work' (k + 1)
clearing_next work₀ i work k work' h room e c = rw e (record {
  spare = spare_put (i + 1) work₀ work i k 0 (omega arith) h c.spare;
  none = below_more _ k (λ l g. note_other work i k 0 i l (λ z. omega arith) ∙ c.none l g) (size-put work (note_place i k) 0 (omega arith));
  others = λ j f l g. note_other work i k 0 j l (λ z. f (omega arith)) ∙ c.others j f l g;
})

pub cleared : (work : List ℕ) (i : ℕ) (work' : List ℕ) (k : ℕ) → noted_count ≤ k → Clearing work i work' k → ClearsSlot work i work'
cleared work i work' k h c = record { spare = c.spare; none = λ l g. c.none l (omega arith); others = c.others }

-- note_sole
pub notes_none : (work : List ℕ) (i n : ℕ) → NotesOne work i n work
notes_none work i n = record { spare = spare_none (i + 1) work; here = λ k h. inl refl; others = λ j f k h. refl }

pub notes_put : (work : List ℕ) (i n k : ℕ) (now work' : List ℕ) → now ≡ work → k < noted_count → slot_bytes * (i + 1) ≤ length work
    → work' ≡ put_number now (note_place i k) n → NotesOne work i n work'
notes_put work i n k now work' same h room e = rw (e, same) (record {
  spare = spare_put (i + 1) work work i k n (omega arith) h (spare_none (i + 1) work);
  here = λ l g. go l (ℕ_discrete l k);
  others = λ j f l g. note_other work i k n j l (λ z. f (omega arith));
})
  where
    go : (l : ℕ) → Dec (l ≡ k) → (note_at (put_number work (note_place i k) n) i l ≡ note_at work i l) ⊎ (note_at (put_number work (note_place i k) n) i l ≡ n)
    go l (yes q) = inr (rw q (size-put work (note_place i k) n (omega arith)))
    go l (no q) = inl (note_other work i k n i l (λ z. q (omega arith)))
