-- What stays and what is read where the front of a room is written, and where a list stands in a room of fixed size.
-- Assumes nothing.
use mathlib.Core.Path.{◌≡◌, refl, sym, ap, ◌∙◌}
use mathlib.Core.List.{List, [], ◌∷◌, ◌++◌, append_assoc}
use Prim.Native.Nat.{ℕ, zero, suc, ◌+◌, ◌-◌, ◌<◌, ◌≤◌}
use native.Mathlib.Nat.{sub-zero, zero-sub}
use native.Mathlib.Numerals.{add-one}
use native.Mathlib.Omega.{arith}
use lib.ListN.{length, take, drop, get_or, set, replicate, length-append, length-drop, length-replicate, take-append-drop}
use lib.Seq.{paste, sets-eq, take-append_seam, take_at, drop_at, drop-append-add, drop-append-le, length-take-le}
use Rattle.answer.specs.Room.{placed, padded}

-- what is read within a list does not hang on what would be read past its end
pub any_default : {A : Type 0} (l : List A) (a : ℕ) (d e : A) → a < length l → get_or l a d ≡ get_or l a e
any_default [] a d e h = absurd (omega arith)
any_default (x ∷ l) zero d e h = refl
any_default (x ∷ l) (suc a) d e h = any_default l a d e (omega arith)

-- ---- the front written, the rest kept

module _ {A : Type 0} (l room : List A) where
  -- a room stays as long as it was, where the list fits
  pub placed-length : length l ≤ length room → length (placed l room) ≡ length room
  placed-length h = length-append l (drop (length l) room) ∙ omega (arith, length-drop (length l) room)

  -- the front is the list
  pub placed_front : take (length l) (placed l room) ≡ l
  placed_front = take_at l (drop (length l) room) (length l) refl

  -- behind it the room is as it was
  pub placed_rest : drop (length l) (placed l room) ≡ drop (length l) room
  placed_rest = drop_at l (drop (length l) room) (length l) refl

  -- of two lists of one length the later one is held
  pub placed-over : (m : List A) → length m ≡ length l → placed m (placed l room) ≡ placed m room
  placed-over m e = ap (λ (r : List A). m ++ r) (rw e placed_rest)

  -- placed again, the room stays
  pub placed_again : placed l (placed l room) ≡ placed l room
  placed_again = placed-over l refl

-- ---- a list in a room of fixed size

module _ {A : Type 0} (size : ℕ) (spare : A) where
  drop-replicate : (n m : ℕ) → drop n (replicate m spare) ≡ replicate (m - n) spare
  drop-replicate zero m = rw sub-zero
  drop-replicate (suc n) zero = rw zero-sub
  drop-replicate (suc n) (suc m) =
      let e : suc m - suc n ≡ m - n = omega arith in
      rw e (drop-replicate n m)

  -- the room has its size, where the list fits
  pub padded-length : (l : List A) → length l ≤ size → length (padded size spare l) ≡ size
  padded-length l h = simp (length-append, length-replicate) (omega arith)

  -- the part that is used is the list
  pub padded_front : (l : List A) (n : ℕ) → length l ≡ n → take n (padded size spare l) ≡ l
  padded_front l n e = take_at l (replicate (size - length l) spare) n e

  -- the first n of another list, written after the part that is used
  pub padded-paste : (l m : List A) (at n : ℕ) → length l ≡ at → n ≤ length m → at + n ≤ size
      → paste (padded size spare l) at m n ≡ padded size spare (l ++ take n m)
  padded-paste l m at n e hm h =
      let rest = replicate (size - length l) spare in
      let len : length (l ++ take n m) ≡ length l + n =
      length-append l (take n m) ∙ ap (λ (k : ℕ). length l + k) (length-take-le n m hm) in
      let room : size - length l - n ≡ size - length (l ++ take n m) = omega arith in
      rw (← e, take-append_seam, drop-append-add, drop-replicate, room)

  -- one more
  pub padded-one : (l : List A) (a : A) (at : ℕ) → length l ≡ at → at < size
      → set (padded size spare l) at a ≡ padded size spare (l ++ (a ∷ []))
  padded-one l a at e h =
      sets-eq (a ∷ []) (padded size spare l) at (rw (padded-length l (omega arith)) (omega arith))
      ∙ padded-paste l (a ∷ []) at 1 e (omega arith) (omega arith)

  -- two more
  pub padded-two : (l : List A) (a b : A) (at : ℕ) → length l ≡ at → at + 1 < size
      → set (set (padded size spare l) at a) (at + 1) b ≡ padded size spare (l ++ (a ∷ b ∷ []))
  padded-two l a b at e h =
      rw add-one
      (sets-eq (a ∷ b ∷ []) (padded size spare l) at (rw (padded-length l (omega arith)) (omega arith))
      ∙ padded-paste l (a ∷ b ∷ []) at 2 e (omega arith) (omega arith))

-- what is not used of a room reads as 0, as what lies outside of a list does
none-at : (size a : ℕ) → ◌≡◌ {A = ℕ} (get_or (replicate size 0) a 0) 0
none-at zero a = refl
none-at (suc size) zero = refl
none-at (suc size) (suc a) = none-at size a

pub padded-at : (l : List ℕ) (size a : ℕ) → get_or (l ++ replicate size 0) a 0 ≡ get_or l a 0
padded-at [] size a = none-at size a
padded-at (x ∷ l) size zero = refl
padded-at (x ∷ l) size (suc a) = padded-at l size a

-- ---- a part of a room that was lent

-- what was written into the first n entries stands at the front of the whole room
pub room_back : (l room after : List ℕ) (n : ℕ) → after ≡ placed l (take n room) → length after ≡ length (take n room)
    → after ++ drop n room ≡ placed l room
room_back l room after n e k =
    let front = take n room in
    let long : length after ≡ length l + length (drop (length l) front) =
    ap length e ∙ length-append l (drop (length l) front) in
    let inside : length l ≤ length front = omega arith in
    ap (λ (x : List ℕ). x ++ drop n room) e
    ∙ append_assoc l (drop (length l) front) (drop n room)
    ∙ ap (λ (x : List ℕ). l ++ x)
    (sym (drop-append-le (length l) front (drop n room) inside) ∙ ap (drop (length l)) (take-append-drop n room))
