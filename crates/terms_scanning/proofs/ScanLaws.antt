-- The grammar walk at positions: what each way through the code answers is what reading says.
use mathlib.Core.Path.{◌≡◌, refl, ap, subst, ◌∙◌}
use mathlib.Core.Bool.{Bool, true, false, ◌&&◌}
use mathlib.Core.List.{List, [], ◌∷◌}
use Prim.Native.Nat.{ℕ, zero, suc, ◌+◌, ◌-◌, ◌≤◌, ◌<◌, max}
use native.Mathlib.Numerals.{add-one}
use native.Mathlib.Omega.{arith}
use lib.ListN.{length, get_or, drop, drop_of_length-le}
use lib.Seq.{drop-cons}
use lib.Dec.{ltb, leb}
use borrow.Author.Tests.{lt-ltb, le-ltb, le-leb, lt-leb, eq-eqb, ne_eqb}
use Rattle.terms.specs.Edition.{Edition, one, two}
use Rattle.terms.specs.Answer.{refused, result, ◌>>=◌, ◌>>◌, need}
use Rattle.terms.specs.Reading.{byte, read_name, read_names, numbered, read_count}
use Rattle.terms_scanning.specs.Scanning.{name_allowed, behind_names, behind_call, behind_front, front_answer, NextWithin, NamesIs, CallIs, FrontIs}
use Rattle.terms_bytes.specs.Shape.{names_at}
use Rattle.terms.proofs.Answers.{bind_assoc}
use Rattle.std.specs.Prelude.{Result, Ok, Err}
use Rattle.terms_bytes.specs.Refusals.{number_of}
use Rattle.terms_bytes.specs.declared.answer.Refusal.{Refusal}
use Rattle.terms_bytes.specs.declared.answer.Refusal.TheVariants.{Grammar, UnknownDefinition, UnknownName, NameCount}

pub drop_here : (s : List ℕ) (at : ℕ) → at < length s → drop at s ≡ get_or s at 0 ∷ drop (at + 1) s
drop_here s at h = rw (add-one, drop-cons s at 0)

-- One name: allowed or not, as the code tests it.
module _ (free d : ℕ) where
  pub name_free : (b : ℕ) → b < free → name_allowed free d b ≡ true
  unfolding name_allowed
  name_free b h = rw (lt-ltb b free h)

  pub name-none : (b : ℕ) → free ≤ b → b < 128 → name_allowed free d b ≡ false
  unfolding name_allowed
  name-none b h l = rw (le-ltb b free h, lt-leb 128 b l)

  pub name_bound : (b : ℕ) → free ≤ b → 128 ≤ b → b - 128 < d → name_allowed free d b ≡ true
  unfolding name_allowed
  name_bound b h l m = rw (le-ltb b free h, le-leb 128 b l, lt-ltb (b - 128) d m)

  pub name_far : (b : ℕ) → free ≤ b → 128 ≤ b → d ≤ b - 128 → name_allowed free d b ≡ false
  unfolding name_allowed
  name_far b h l m = rw (le-ltb b free h, le-leb 128 b l, le-ltb (b - 128) d m)

  read_wrong : (b : ℕ) (bs : List ℕ) → name_allowed free d b ≡ false → read_name free d (b ∷ bs) ≡ refused 9
  unfolding read_name name_allowed byte ◌>>=◌
  read_wrong b bs e = go (ltb b free) (leb 128 b && ltb (b - 128) d) refl refl
    where
      go : (t u : Bool) → ltb b free ≡ t → (leb 128 b && ltb (b - 128) d) ≡ u → read_name free d (b ∷ bs) ≡ refused 9
      go true u p q = let z : true ≡ false = rw p at e in let w : ◌≡◌ {A = ℕ} 0 1 = cc in absurd (omega arith)
      go false true p q = let z : true ≡ false = rw (p, q) at e in let w : ◌≡◌ {A = ℕ} 0 1 = cc in absurd (omega arith)
      go false false p q = rw (p, q)

  read_right : (b : ℕ) (bs : List ℕ) → name_allowed free d b ≡ true → (n : ℕ) × (read_name free d (b ∷ bs) ≡ result (n, bs))
  unfolding read_name name_allowed byte ◌>>=◌
  read_right b bs e = go (ltb b free) (leb 128 b && ltb (b - 128) d) refl refl
    where
      go : (t u : Bool) → ltb b free ≡ t → (leb 128 b && ltb (b - 128) d) ≡ u → (n : ℕ) × (read_name free d (b ∷ bs) ≡ result (n, bs))
      go true u p q = (d + b, rw p)
      go false true p q = (b - 128, rw (p, q))
      go false false p q = let z : false ≡ true = rw (p, q) at e in let w : ◌≡◌ {A = ℕ} 0 1 = cc in absurd (omega arith)

  -- n names from a position on.
  module _ (s : List ℕ) where
    pub names_short : (n at : ℕ) → 0 < n → length s ≤ at → behind_names free d n (drop at s) ≡ refused 7
    unfolding behind_names read_names read_name byte ◌>>=◌
    names_short zero at z h = absurd (omega arith)
    names_short (suc n) at z h = rw (drop_of_length-le s h)

    pub names_wrong : (n at : ℕ) → 0 < n → at < length s → name_allowed free d (get_or s at 0) ≡ false → behind_names free d n (drop at s) ≡ refused 9
    unfolding behind_names read_names ◌>>=◌
    names_wrong zero at z h e = absurd (omega arith)
    names_wrong (suc n) at z h e = rw (drop_here s at h, read_wrong (get_or s at 0) (drop (at + 1) s) e)

    pub names-step : (n at : ℕ) → 0 < n → at < length s → name_allowed free d (get_or s at 0) ≡ true →
        behind_names free d n (drop at s) ≡ behind_names free d (n - 1) (drop (at + 1) s)
    unfolding behind_names read_names ◌>>=◌
    names-step zero at z h e = absurd (omega arith)
    names-step (suc n) at z h e =
        let r = read_right (get_or s at 0) (drop (at + 1) s) e in
        let m : suc n - 1 ≡ n = omega arith in
        rw
        (drop_here s at h, r.1, m)
        (bind_assoc (read_names free d n (drop (at + 1) s)) (λ ns. result (r.0 ∷ ns.0, ns.1)) (λ ns. result ns.1))

    -- The ways out of the loop: `count` names were to be read from `from` on, and n are left from `at` on.
    module _ (count from n at : ℕ) (same : behind_names free d count (drop from s) ≡ behind_names free d n (drop at s)) where
      pub names_out_short : 0 < n → length s ≤ at → NamesIs free d count s from (Err Grammar)
      unfolding front_answer number_of NextWithin
      names_out_short z h = record { is = same ∙ names_short n at z h; within = tt }

      pub names_out_wrong : 0 < n → at < length s → name_allowed free d (get_or s at 0) ≡ false → NamesIs free d count s from (Err UnknownName)
      unfolding front_answer number_of NextWithin
      names_out_wrong z h e = record { is = same ∙ names_wrong n at z h e; within = tt }

      pub names-out : n ≡ 0 → from ≤ at → at ≤ max from (length s) → NamesIs free d count s from (Ok at)
      unfolding front_answer number_of NextWithin behind_names read_names ◌>>=◌
      names-out z l h = record { is = same ∙ rw z; within = (l, h) }

next_weaken : (low low' high high' : ℕ) (r : Result ℕ Refusal) → low ≤ low' → high' ≤ high → NextWithin low' high' r → NextWithin low high r
unfolding NextWithin
next_weaken low low' high high' (Ok e) l h w = let p = w.0 in let q = w.1 in (omega arith, omega arith)
next_weaken low low' high high' (Err k) l h w = tt

pub next_within : (low high e : ℕ) → NextWithin low high (Ok e) → (low ≤ e) × (e ≤ high)
unfolding NextWithin
next_within low high e w = w

-- A call from its definition's number on.
module _ (ed : Edition) (free : ℕ) (arities : List ℕ) (d : ℕ) (s : List ℕ) (at : ℕ) where
  pub call_short : length s ≤ at → CallIs ed free arities d s at (Err Grammar)
  unfolding behind_call front_answer number_of NextWithin byte ◌>>=◌
  call_short h = record { is = rw (drop_of_length-le s h); within = tt }

  module _ (h : at < length s) where
    pub call_unknown : length arities ≤ get_or s at 0 → CallIs ed free arities d s at (Err UnknownDefinition)
    unfolding behind_call numbered front_answer number_of NextWithin byte ◌>>=◌ ◌>>◌ need
    call_unknown u = record { is = rw (drop_here s at h, le-ltb (get_or s at 0) (length arities) u); within = tt }

    module _ (n : ℕ) (known : get_or s at 0 < length arities) (count : n ≡ get_or arities (get_or s at 0) 0) where
      at_count : behind_call ed free arities d (drop at s) ≡ (read_count ed n (drop (at + 1) s) >>= behind_names free d n)
      unfolding behind_call numbered byte ◌>>=◌ ◌>>◌ need
      at_count = rw (drop_here s at h, lt-ltb (get_or s at 0) (length arities) known, ← count)

-- In edition one the names follow, in edition two their number first: check 16.
module _ (free : ℕ) (arities : List ℕ) (d : ℕ) (s : List ℕ) (at : ℕ) (h : at < length s) (n : ℕ) (known : get_or s at 0 < length arities)
    (count : n ≡ get_or arities (get_or s at 0) 0) where
  pub call-names : (r : Result ℕ Refusal) → NamesIs free d n s (at + 1) r → CallIs one free arities d s at r
  unfolding read_count ◌>>=◌
  call-names r w =
      record {
        is = at_count one free arities d s at h n known count ∙ w.is;
        within = next_weaken at (at + 1) (max at (length s)) (max (at + 1) (length s)) r (omega arith) (omega arith) w.within;
      }

  pub count_missing : length s ≤ at + 1 → CallIs two free arities d s at (Err Grammar)
  unfolding read_count byte front_answer number_of NextWithin ◌>>=◌
  count_missing l = record { is = at_count two free arities d s at h n known count ∙ rw (drop_of_length-le s l); within = tt }

  module _ (l : at + 1 < length s) where
    next_two : drop (at + 1) s ≡ get_or s (at + 1) 0 ∷ drop (at + 2) s
    next_two =
        let p : at + 1 + 1 ≡ at + 2 = omega arith in
        drop_here s (at + 1) l ∙ ap (λ n. get_or s (at + 1) 0 ∷ drop n s) p

    pub count_wrong : (get_or s (at + 1) 0 ≡ n → ⊥) → CallIs two free arities d s at (Err NameCount)
    unfolding read_count byte front_answer number_of NextWithin need ◌>>◌ ◌>>=◌
    count_wrong e = record { is = at_count two free arities d s at h n known count ∙ rw (next_two, ne_eqb (get_or s (at + 1) 0) n e); within = tt }

    pub counted-names : (r : Result ℕ Refusal) → get_or s (at + 1) 0 ≡ n → NamesIs free d n s (at + 2) r → CallIs two free arities d s at r
    unfolding read_count byte need ◌>>◌ ◌>>=◌
    counted-names r e w =
        record {
          is = at_count two free arities d s at h n known count ∙ rw (next_two, eq-eqb (get_or s (at + 1) 0) n e) w.is;
          within = next_weaken at (at + 2) (max at (length s)) (max (at + 2) (length s)) r (omega arith) (omega arith) w.within;
        }

-- The front of a term.
module _ (ed : Edition) (free : ℕ) (arities : List ℕ) (d : ℕ) (s : List ℕ) (at : ℕ) where
  pub front_short : length s ≤ at → FrontIs ed free arities d s at (Err Grammar)
  unfolding behind_front front_answer number_of NextWithin byte ◌>>=◌
  front_short h = record { is = rw (drop_of_length-le s h); within = tt }

  module _ (h : at < length s) where
    pub front_unknown : 9 < get_or s at 0 → FrontIs ed free arities d s at (Err Grammar)
    unfolding behind_front front_answer number_of NextWithin byte ◌>>=◌ ◌>>◌ need
    front_unknown u = record { is = rw (drop_here s at h, lt-leb (get_or s at 0) 9 u); within = tt }

    pub front-call : (r : Result ℕ Refusal) → get_or s at 0 ≡ 9 → CallIs ed free arities d s (at + 1) r → FrontIs ed free arities d s at r
    unfolding behind_front byte ◌>>=◌ ◌>>◌ need
    front-call r e w =
        record {
          is = rw (drop_here s at h, e) w.is;
          within = next_weaken (at + 1) (at + 1) (length s) (max (at + 1) (length s)) r (omega arith) (omega arith) w.within;
        }

    pub front-names : (n : ℕ) (r : Result ℕ Refusal) → get_or s at 0 ≤ 9 → (get_or s at 0 ≡ 9 → ⊥) → n ≡ names_at arities (get_or s at 0) (get_or s (at + 1) 0) →
        NamesIs free d n s (at + 1) r → FrontIs ed free arities d s at r
    unfolding behind_front names_at byte ◌>>=◌ ◌>>◌ need
    front-names n r l e m w =
        let k : n ≡ get_or (0 ∷ 0 ∷ 1 ∷ 2 ∷ 1 ∷ 2 ∷ 0 ∷ 0 ∷ 0 ∷ []) (get_or s at 0) 0 = rw (ne_eqb (get_or s at 0) 9 e) at m in
        record {
          is = rw (drop_here s at h, le-leb (get_or s at 0) 9 l, ne_eqb (get_or s at 0) 9 e, ← k) w.is;
          within = next_weaken (at + 1) (at + 1) (length s) (max (at + 1) (length s)) r (omega arith) (omega arith) w.within;
        }
