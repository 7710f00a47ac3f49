-- Lists told number by number, and a room that is filled with one from its front on. Assumes nothing.
use mathlib.Core.List.{List, [], ◌∷◌, ◌++◌, append_assoc, append-nil}
use mathlib.Core.Path.{◌≡◌, refl, sym, ap, ◌∙◌}
use Prim.Native.Nat.{ℕ, zero, suc, ◌+◌, ◌-◌, ◌*◌, ◌≤◌, ◌<◌}
use native.Mathlib.Nat.{add-zero, zero-add, add-suc, suc-add, suc-mul, zero-mul, add_comm}
use native.Mathlib.Numerals.{add-one}
use native.Mathlib.Omega.{arith}
use lib.ListN.{length, get_or, set, take, drop, length-append, length-drop, take-append-drop, drop_of_length-le}
use lib.ListN.{get_or-append}
use lib.Seq.{drop-cons, drop-drop, take_all, set_at, take_at, drop_at, get_or-append-add, get_or-take, length-take-le}
use lib.Seq.{paste, drop-paste}
use Rattle.table.specs.Distances.{listed, chained}

module _ {A : Type 0} where
  pub listed-length : (f : ℕ → A) (k a : ℕ) → length (listed f k a) ≡ k
  unfolding listed
  listed-length f zero a = refl
  listed-length f (suc k) a = ap suc (listed-length f k (suc a))

  -- the number at place i is i further than the first
  pub listed_at : (f : ℕ → A) (k a i : ℕ) (d : A) → i < k → get_or (listed f k a) i d ≡ f (a + i)
  unfolding listed
  listed_at f zero a i d h = absurd (omega arith)
  listed_at f (suc k) a zero d h = rw add-zero
  listed_at f (suc k) a (suc i) d h = rw (add-suc, ← suc-add) (listed_at f k (suc a) i d (omega arith))

  listed_last : (f : ℕ → A) (k a : ℕ) → listed f (suc k) a ≡ listed f k a ++ (f (a + k) ∷ [])
  unfolding listed
  listed_last f zero a = rw add-zero
  listed_last f (suc k) a = ap (λ (l : List A). f a ∷ l) (rw (add-suc, ← suc-add) (listed_last f k (suc a)))

  listed_more : (f : ℕ → A) (k : ℕ) → listed f (k + 1) 0 ≡ listed f k 0 ++ (f k ∷ [])
  listed_more f k = rw add-one (listed_last f k 0 ∙ rw zero-add)

  -- one entry more, written at the first place that is not filled
  pub entry_more : (f : ℕ → A) (k : ℕ) (room now : List A) (v : A) → k < length room
      → now ≡ listed f k 0 ++ drop k room → v ≡ f k →
      set now k v ≡ listed f (k + 1) 0 ++ drop (k + 1) room
  entry_more f k room now v h e q =
      rw (e, drop-cons room k v h, listed_more f k, add-one k, append_assoc, ← q)
      (set_at (listed f k 0) (get_or room k v) (drop (suc k) room) v k (listed-length f k 0))

  -- a room that begins with a list
  pub begun_with : (k : ℕ) (l room : List A) → take k room ≡ l → room ≡ l ++ drop k room
  begun_with k l room e = sym (take-append-drop k room) ∙ ap (λ (front : List A). front ++ drop k room) e

  -- a room into which the first n of a list were copied, from `at` on
  module _ (room : List A) (at : ℕ) (l : List A) (n : ℕ) (inside : at ≤ length room) (enough : n ≤ length l) where
    rest : List A
    rest = take n l ++ drop (at + n) room

    split : paste room at l n ≡ take at room ++ rest
    unfolding rest
    split = append_assoc (take at room) (take n l) (drop (at + n) room)

    -- what stands before them is as it was
    pub paste-before : take at (paste room at l n) ≡ take at room
    paste-before = rw split (take_at (take at room) rest at (length-take-le at room inside))

    -- from there on they stand
    pub paste_there : take n (drop at (paste room at l n)) ≡ take n l
    unfolding rest
    paste_there =
        rw (split, drop_at (take at room) rest at (length-take-le at room inside))
        (take_at (take n l) (drop (at + n) room) n (length-take-le n l enough))

    -- and behind them all is as it was
    pub paste_behind : (k : ℕ) → n ≤ k → drop (at + k) (paste room at l n) ≡ drop (at + k) room
    paste_behind k few =
        let e : at + k ≡ at + n + (k - n) = omega arith in
        rw e
        (sym (drop-drop (k - n) (at + n) (paste room at l n))
        ∙ ap (drop (k - n)) (drop-paste room at l n inside enough)
        ∙ drop-drop (k - n) (at + n) room)

    pub paste_read : (i : ℕ) (d : A) → i < at → get_or (paste room at l n) i d ≡ get_or room i d
    paste_read i d h =
        sym (get_or-take at (paste room at l n) i d h) ∙ ap (λ (m : List A). get_or m i d) paste-before
        ∙ get_or-take at room i d h

  -- lists of t each, one after the other
  pub chained-length : (f : ℕ → List A) (t : ℕ) → ((i : ℕ) → length (f i) ≡ t) → (k a : ℕ)
      → length (chained f k a) ≡ k * t
  unfolding chained
  chained-length f t size zero a = sym (zero-mul t)
  chained-length f t size (suc k) a =
      length-append (f a) (chained f k (suc a))
      ∙ rw (size a, chained-length f t size k (suc a), suc-mul k t) (add_comm t (k * t))

  -- entry j of list i
  pub chained-at : (f : ℕ → List A) (t : ℕ) → ((i : ℕ) → length (f i) ≡ t) → (k a i j : ℕ) (d : A) → i < k → j < t
      → get_or (chained f k a) (i * t + j) d ≡ get_or (f (a + i)) j d
  unfolding chained
  chained-at f t size zero a i j d h g = absurd (omega arith)
  chained-at f t size (suc k) a zero j d h g =
      rw (zero-mul, zero-add, add-zero) (get_or-append (f a) (chained f k (suc a)) d j (rw (size a) g))
  chained-at f t size (suc k) a (suc i) j d h g =
      let e : suc i * t + j ≡ length (f a) + (i * t + j) = omega (arith, size a, suc-mul i t) in
      rw (e, get_or-append-add (f a) (chained f k (suc a)) (i * t + j) d, add-suc, ← suc-add)
      (chained-at f t size k (suc a) i j d (omega arith) g)

  chained_last : (f : ℕ → List A) (k a : ℕ) → chained f (suc k) a ≡ chained f k a ++ f (a + k)
  unfolding chained
  chained_last f zero a = rw add-zero (append-nil (f a))
  chained_last f (suc k) a =
      ap (λ (l : List A). f a ++ l) (chained_last f k (suc a))
      ∙ rw (add-suc, ← suc-add) (sym (append_assoc (f a) (chained f k (suc a)) (f (suc a + k))))

  chained_more : (f : ℕ → List A) (k : ℕ) → chained f (k + 1) 0 ≡ chained f k 0 ++ f k
  chained_more f k = rw add-one (chained_last f k 0 ∙ rw zero-add)

  -- one list more, written to the rest of the room, which was lent for it
  pub list_more : (f : ℕ → List A) (t : ℕ) → ((i : ℕ) → length (f i) ≡ t) → (k : ℕ) (room now part : List A)
      → now ≡ chained f k 0 ++ drop (k * t) room →
      part ≡ f k ++ drop t (take (length now - k * t) (drop (k * t) now)) →
      take (k * t) now ++ (part ++ drop (length now - k * t) (drop (k * t) now))
      ≡ chained f (k + 1) 0 ++ drop ((k + 1) * t) room
  list_more f t size k room now part so_far e =
      let l : length (chained f k 0) ≡ k * t = chained-length f t size k 0 in
      let front : take (k * t) now ≡ chained f k 0 =
      rw so_far (take_at (chained f k 0) (drop (k * t) room) (k * t) l) in
      let back : drop (k * t) now ≡ drop (k * t) room =
      rw so_far (drop_at (chained f k 0) (drop (k * t) room) (k * t) l) in
      let most : length (drop (k * t) now) ≤ length now - k * t = rw length-drop (omega arith) in
      let ends : (k + 1) * t ≡ k * t + t = rw (add-one k, suc-mul) in
      rw (
        e,
        take_all (length now - k * t) (drop (k * t) now) most,
        drop_of_length-le (drop (k * t) now) most,
        append-nil,
        front,
        back,
        drop-drop,
        ends,
        chained_more f k,
      )
      (sym (append_assoc (chained f k 0) (f k) (drop (k * t + t) room)))
