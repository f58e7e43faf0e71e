-- A result copied as a part, and one rewritten by a condition. Assumes nothing.
use mathlib.Core.Path.{◌≡◌, refl, sym, ap, ◌∙◌}
use mathlib.Core.Bool.{Bool, true}
use mathlib.Core.List.{List, [], ◌∷◌, ◌++◌}
use Prim.Native.Nat.{ℕ, suc, ◌+◌, ◌-◌, ◌<◌, ◌≤◌}
use native.Mathlib.Decide.{ℕ_discrete}
use native.Mathlib.Omega.{arith}
use lib.ListN.{length, get_or, take, drop, set, replicate}
use lib.Seq.{sets, set-set, set_comm, take_at, get_or-take, get_or-drop, length-sets}
use Rattle.calculus.specs.Term.{ren, put}
use Rattle.calculus.proofs.Binding.{put_self, put_other}
use Rattle.terms.specs.Encoding.{encode, InScope}
use Rattle.terms.specs.Limits.{name_count, longest_term}
use Rattle.terms_renaming.specs.Renaming.{RenameIs}
use Rattle.terms_bytes.proofs.Heights.{height-bytes}
use Rattle.terms_bytes.proofs.NameTables.{represents_free}
use Rattle.terms.proofs.RenamingKeeps.{length-ren}
use Rattle.steps.specs.Limits.{step_bytes}
use Rattle.steps.specs.Listed.{ListedStep, class_in, result_bytes}
use Rattle.field_pairs.specs.Entry.{EntryAt, SameClassesIs, object_byte, result_byte}
use Rattle.field_successors.specs.Resulting.{CopiesResult, RewritesResult, ReceivesResult}
use Rattle.field_pairs.specs.Slot.{part_bytes, part_room}
use Rattle.field.proofs.Moves.{put_same}
use Rattle.field_pairs.proofs.EntryLaws.{entry_class, entry-result}
use Rattle.field_slots.proofs.KeyLaws.{length_part, behind}

pub copies_result : (area : List ℕ) (at : ℕ) (slot : List ℕ) (put : ℕ) (slot' : List ℕ) → slot' ≡ sets slot put (take part_room (drop (at + object_byte + 1) area))
    → CopiesResult area at slot put slot'
unfolding CopiesResult result_bytes
copies_result area at slot put slot' w s e =
    let n : at + object_byte + 1 ≡ at + result_byte = omega arith in
    w ∙ ap (sets slot put) (ap (λ k. take part_room (drop k area)) n ∙ ap (take part_room) (entry-result area at s e)
    ∙ take_at (part_bytes s.result) e.rest part_room (length_part s.result e.fits))

-- What is rewritten by a condition already is not rewritten by the same one.
pub copied-same : (area : List ℕ) (at : ℕ) (others : List ℕ) (place : ℕ) (arities slot : List ℕ) (put : ℕ) (slot₁ : List ℕ)
    → CopiesResult others place slot put slot₁ → (r : Bool) → SameClassesIs area at others place r → r ≡ true
    → RewritesResult area at others place arities slot put slot₁
unfolding CopiesResult SameClassesIs RewritesResult
copied-same area at others place arities slot put slot₁ w r h q s t e f scope own =
    let P = t.result in
    w t f ∙ ap (λ Q. sets slot put (part_bytes Q)) (sym (ap (λ c. ren (class_in c) P) (h q s t e f) ∙ own))

-- A store before a run of stores may come after it.
set_first : (l zs : List ℕ) (p q y : ℕ) → p < q → set (sets l q zs) p y ≡ sets (set l p y) q zs
set_first l [] p q y h = refl
set_first l (z ∷ zs) p q y h =
    set_first (set l q z) zs p (suc q) y (omega arith) ∙ ap (λ m. sets m (suc q) zs) (set_comm l q p z y (λ e. omega arith))

-- What is stored over the front of a run takes its place.
pub sets_over : (l xs ys fill : List ℕ) (p : ℕ) → length xs ≡ length ys → sets (sets l p (xs ++ fill)) p ys ≡ sets l p (ys ++ fill)
sets_over l [] [] fill p e = refl
sets_over l [] (y ∷ ys) fill p e = absurd (omega arith)
sets_over l (x ∷ xs) [] fill p e = absurd (omega arith)
sets_over l (x ∷ xs) (y ∷ ys) fill p e =
    ap (λ m. sets m (suc p) ys) (set_first (set l p x) (xs ++ fill) p (suc p) y (omega arith) ∙ ap (λ m. sets m (suc p) (xs ++ fill)) (set-set l p x y))
    ∙ sets_over (set l p y) xs ys fill (suc p) (omega arith)

-- A result that is copied and then renamed by a table.
module _ (others : List ℕ) (place : ℕ) (arities table slot : List ℕ) (at : ℕ) (room : at + 113 ≤ length slot) (slot₁ : List ℕ) (r : ℕ) (slot₂ : List ℕ)
    (w : CopiesResult others place slot at slot₁) (R : RenameIs others (place + object_byte + 2) arities table slot₁ (at + 1) r slot₂) where
  renamed-result : (c : ℕ → ℕ) → ((n : ℕ) → n < name_count → (get_or table n 0 ≡ c n) × (c n < name_count)) → (t : ListedStep) → EntryAt others place t
      → InScope name_count arities 0 t.result → slot₂ ≡ sets slot at (part_bytes (ren c t.result))
  unfolding CopiesResult RenameIs part_bytes result_bytes
  renamed-result c h t f scope =
      let P = t.result in
      let fill : List ℕ = replicate (longest_term - length (encode 0 P)) 0 in
      let n : place + object_byte + 2 ≡ place + result_byte + 1 = omega arith in
      let there : drop (place + object_byte + 2) others ≡ encode 0 P ++ (fill ++ f.rest) =
      ap (λ k. drop k others) n ∙ behind others (place + result_byte) P f.rest (entry-result others place t f) in
      let y = R name_count 0 0 c P (fill ++ f.rest) (omega arith) (represents_free table c h) scope there
      (omega (arith, f.fits, height-bytes 0 P)) (omega (arith, f.fits, ap length (w t f), length-sets slot at (part_bytes P))) in
      let same : length (encode 0 (ren c P)) ≡ length (encode 0 P) = length-ren 0 0 c P in
      let q : at + 1 ≡ suc at = omega arith in
      y.1 ∙ rw (w t f, q, same) (sets_over (set slot at (length (encode 0 P))) (encode 0 P) (encode 0 (ren c P)) fill (suc at) (sym same))

pub rewrites_result : (area : List ℕ) (at : ℕ) (others : List ℕ) (place : ℕ) (arities slot : List ℕ) (put : ℕ) → at + step_bytes ≤ length area
    → put + 113 ≤ length slot → (slot₁ : List ℕ) (r : ℕ) (slot₂ : List ℕ) → CopiesResult others place slot put slot₁
    → RenameIs others (place + object_byte + 2) arities (take (length area - at) (drop at area)) slot₁ (put + 1) r slot₂
    → RewritesResult area at others place arities slot put slot₂
unfolding RewritesResult
rewrites_result area at others place arities slot put inside room slot₁ r slot₂ w R s t e f scope own =
    let table : List ℕ = take (length area - at) (drop at area) in
    renamed-result others place arities table slot put room slot₁ r slot₂ w R (class_in s.classes) (λ m l. (
      get_or-take (length area - at) (drop at area) m 0 (omega arith) ∙ get_or-drop at area m 0 ∙ entry_class area at s e m l,
      e.within m l,
    )) t f scope

-- A name put for another is one of the names.
pub put-below : (x y n : ℕ) → y < name_count → n < name_count → put x y n < name_count
put-below x y n l h = go (ℕ_discrete n x)
  where
    go : Dec (n ≡ x) → put x y n < name_count
    go (yes q) = omega (arith, put_self x y n q)
    go (no q) = omega (arith, put_other x y n q)

-- A received name: put for itself it changes nothing.
module _ (area : List ℕ) (at : ℕ) (arities : List ℕ) (x y : ℕ) (slot : List ℕ) (to : ℕ) (slot₁ : List ℕ) (w : CopiesResult area at slot to slot₁) where
  pub receives_same : x ≡ y → ReceivesResult area at arities x y slot to slot₁
  unfolding CopiesResult ReceivesResult
  receives_same q s e scope l =
      w s e ∙ ap (λ P. sets slot to (part_bytes P)) (sym (ap (λ z. ren (put x z) s.result) (sym q) ∙ put_same x s.result))

  pub receives_result : to + 113 ≤ length slot → (table : List ℕ) → ((n : ℕ) → n < name_count → get_or table n 0 ≡ put x y n) → (r : ℕ) (slot₂ : List ℕ)
      → RenameIs area (at + object_byte + 2) arities table slot₁ (to + 1) r slot₂ → ReceivesResult area at arities x y slot to slot₂
  unfolding ReceivesResult
  receives_result room table h r slot₂ R s e scope l =
      renamed-result area at arities table slot to room slot₁ r slot₂ w R (put x y) (λ n k. (h n k, put-below x y n l k)) s e scope
