-- What a room holds after the distances were written to it, or were not. Assumes nothing.
use mathlib.Core.List.{List, ◌++◌}
use mathlib.Core.Path.{◌≡◌, ap, subst, ◌∙◌}
use Prim.Native.Nat.{ℕ, ◌+◌, ◌-◌, ◌*◌, ◌≤◌, ◌<◌}
use native.Mathlib.Omega.{arith}
use borrow.Author.Tests.{le-leb, lt-leb}
use lib.Ieee.{Float}
use lib.ListN.{length, get_or, set, take, drop}
use lib.Seq.{length-take-le, get_or-take}
use Rattle.answer.specs.declared.Point.{Point}
use Rattle.candidates.specs.declared.Candidate.{Candidate}
use Rattle.fields.specs.Limits.{candidate_limit}
use Rattle.points.specs.Distance.{distance_of}
use Rattle.table.specs.Distances.{absent, pierced, listed, home_leg, homes_of, homed, tabled, leg_of, leg_at, row_of}
use Rattle.table.specs.Distances.{chained, distances_of, written}
use Rattle.table.proofs.FillLaws.{entry_more, list_more}
use Rattle.table.proofs.DistanceLaws.{row-length, distances-length, homes_length}

module _ (t entries : ℕ) (l room : List Float) (size : length l ≡ entries) (few : t ≤ candidate_limit) where
  written_all : (now : List Float) → entries ≤ length room → now ≡ l ++ drop entries room → now ≡ written t l room
  written_all now enough e = rw (size, le-leb t candidate_limit few, le-leb entries (length room) enough) e

  written_short : length room < entries → room ≡ written t l room
  written_short short = rw (size, le-leb t candidate_limit few, lt-leb entries (length room) short)

-- ---- from home

module _ (items : List Candidate) (t : ℕ) (home : Point) (room : List Float) where
  pub home_many : candidate_limit < t → room ≡ homed items t home room
  unfolding homed
  home_many h = rw (lt-leb t candidate_limit h)

  homes_size : t ≤ candidate_limit → length items ≡ candidate_limit → length (homes_of (take t items) home) ≡ t
  homes_size h size = homes_length (take t items) home ∙ length-take-le t items (omega arith)

  pub home_short : t ≤ candidate_limit → length items ≡ candidate_limit → length room < t → room ≡ homed items t home room
  unfolding homed
  home_short h size short = written_short t t (homes_of (take t items) home) room (homes_size h size) h short

  module _ (a : ℕ) (now : List Float) (so_far : now ≡ listed (home_leg (take t items) home) a 0 ++ drop a room) where
    pub home_all : t ≤ candidate_limit → t ≤ length room → length items ≡ candidate_limit → a ≡ t
        → now ≡ homed items t home room
    unfolding homed homes_of
    home_all h enough size done =
        let e : length (take t items) ≡ t = length-take-le t items (omega arith) in
        written_all t t (homes_of (take t items) home) room (homes_size h size) h now enough
        (let q : now ≡ listed (home_leg (take t items) home) t 0 ++ drop t room =
        subst (λ (k : ℕ). now ≡ listed (home_leg (take t items) home) k 0 ++ drop k room) done so_far in rw e q)

    pub home_more : (v : Float) → a < t → t ≤ length room → v ≡ distance_of home (pierced (get_or (take t items) a absent)) →
        set now a v ≡ listed (home_leg (take t items) home) (a + 1) 0 ++ drop (a + 1) room
    unfolding home_leg
    home_more v h enough e =
        entry_more (home_leg (take t items) home) a room now v (omega arith) so_far e

-- ---- a row

module _ (items : List Candidate) (t : ℕ) (owner : List ℕ) (a b : ℕ) (room now : List Float)
    (so_far : now ≡ listed (leg_at (take t items) owner a) b 0 ++ drop b room) where
  pub row_all : b ≡ t → now ≡ row_of (take t items) owner t a ++ drop t room
  unfolding row_of
  row_all done = subst (λ (k : ℕ). now ≡ listed (leg_at (take t items) owner a) k 0 ++ drop k room) done so_far

  pub row_more : (k m : ℕ) (v : Float) → a < t → b < t → t ≤ length room → k ≡ get_or owner a 0 → m ≡ get_or owner b 0
      → v ≡ leg_of (get_or items a absent) k (get_or items b absent) m →
      set now b v ≡ listed (leg_at (take t items) owner a) (b + 1) 0 ++ drop (b + 1) room
  unfolding leg_at
  row_more k m v ha hb enough ek em e =
      entry_more (leg_at (take t items) owner a) b room now v (omega arith) so_far
      (rw (get_or-take t items a absent ha, get_or-take t items b absent hb, ← ek, ← em) e)

-- ---- all rows

module _ (items : List Candidate) (t : ℕ) (owner : List ℕ) (room : List Float) where
  pub table_many : candidate_limit < t → room ≡ tabled items t owner room
  unfolding tabled
  table_many h = rw (lt-leb t candidate_limit h)

  distances_size : t ≤ candidate_limit → length items ≡ candidate_limit
      → length (distances_of (take t items) owner) ≡ t * t
  distances_size h size =
      distances-length (take t items) owner ∙ ap (λ (k : ℕ). k * k) (length-take-le t items (omega arith))

  pub table_short : t ≤ candidate_limit → length items ≡ candidate_limit → length room < t * t
      → room ≡ tabled items t owner room
  unfolding tabled
  table_short h size short =
      written_short t (t * t) (distances_of (take t items) owner) room (distances_size h size) h short

  module _ (a : ℕ) (now : List Float) (so_far : now ≡ chained (row_of (take t items) owner t) a 0 ++ drop (a * t) room)
    where
      pub table_more : (part : List Float)
          → part ≡ row_of (take t items) owner t a ++ drop t (take (length now - a * t) (drop (a * t) now)) →
          take (a * t) now ++ (part ++ drop (length now - a * t) (drop (a * t) now))
          ≡ chained (row_of (take t items) owner t) (a + 1) 0 ++ drop ((a + 1) * t) room
      table_more part e =
          list_more (row_of (take t items) owner t) t (row-length (take t items) owner t) a room now part so_far e

      pub table_all : t ≤ candidate_limit → t * t ≤ length room → length items ≡ candidate_limit → a ≡ t
          → now ≡ tabled items t owner room
      unfolding tabled distances_of
      table_all h enough size done =
          let e : length (take t items) ≡ t = length-take-le t items (omega arith) in
          let q : now ≡ chained (row_of (take t items) owner t) t 0 ++ drop (t * t) room =
          subst (λ (k : ℕ). now ≡ chained (row_of (take t items) owner t) k 0 ++ drop (k * t) room) done so_far in
          written_all t (t * t) (distances_of (take t items) owner) room (distances_size h size) h now enough (rw e q)
