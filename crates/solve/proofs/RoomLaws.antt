-- The tour's room through the search: the start writes its front, the improvement changes that part, and the rest is
-- kept. Assumes nothing.
use mathlib.Core.Path.{◌≡◌, sym, ap, ◌∙◌}
use mathlib.Core.List.{List, ◌++◌}
use Prim.Native.Nat.{ℕ, ◌≤◌}
use native.Mathlib.Omega.{arith}
use lib.ListN.{length, take, drop, length-append}
use lib.Seq.{take_at, drop_at}
use lib.Ieee.{Float}
use Rattle.start.specs.Code.{Written}
use Rattle.improve.specs.Search.{Chart, length_in, searched}
use Rattle.improve.specs.Code.{Reached}
use Rattle.solve.specs.Solve.{start_in, end_in, Solved}

-- ---- after the start

module _ (tour room after : List ℕ) (made : ℕ) (w : Written tour room made after) where
  front : take made after ≡ tour
  front = ap (take made) w.held ∙ take_at tour (drop (length tour) room) made (sym w.counted)

  back : drop made after ≡ drop (length tour) room
  back = ap (drop made) w.held ∙ drop_at tour (drop (length tour) room) made (sym w.counted)

  pub made_within : made ≤ length after
  made_within =
      let e = ap length w.held ∙ length-append tour (drop (length tour) room) in
      let k = w.counted in
      omega arith

  pub made_whole : made ≡ length (take made after)
  made_whole = w.counted ∙ sym (ap length front)

  -- ---- after the improvement

  module _ (last : List ℕ) (k : length last ≡ length (take made after)) where
    as_long : length last ≡ made
    as_long = k ∙ sym made_whole

    pub last_within : made ≤ length (last ++ drop made after)
    last_within = let e = length-append last (drop made after) in let l = as_long in omega arith

    pub last_lent : take made (last ++ drop made after) ≡ last
    last_lent = take_at last (drop made after) made as_long

    pub last_whole : made ≡ length (take made (last ++ drop made after))
    last_whole = sym as_long ∙ sym (ap length last_lent)

module _ (chart : Chart) (n most limit : ℕ) (room after : List ℕ) (made : ℕ)
    (w : Written (start_in chart n) room made after) (last : List ℕ) (k : length last ≡ length (take made after)) where
  pub solved : (moves : ℕ) (long : Float) → Reached moves last (searched chart most limit (take made after))
      → long ≡ length_in chart (take made (last ++ drop made after))
      → Solved chart (end_in chart n most limit) room (record { moves = moves; length = long }) (last ++ drop made after)
  solved moves long r e =
      let f : take made after ≡ start_in chart n = front (start_in chart n) room after made w in
      let held : last ≡ (end_in chart n most limit).tour = rw f at r.held in
      let count : moves ≡ (end_in chart n most limit).moves = rw f at r.counted in
      let size : length (start_in chart n) ≡ length (end_in chart n most limit).tour =
      ap length (sym f) ∙ sym k ∙ ap length held in
      record {
        told = rw (e, last_lent (start_in chart n) room after made w last k, count, held);
        held = ap (λ (l : List ℕ). l ++ drop made after) held
            ∙ ap (λ (l : List ℕ). (end_in chart n most limit).tour ++ l)
            (back (start_in chart n) room after made w ∙ ap (λ (i : ℕ). drop i room) size);
      }
