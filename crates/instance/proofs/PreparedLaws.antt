-- What an accepted card hands to the search: each part that is lent is what the definition reads. Assumes nothing.
use Rattle.std.specs.Prelude.{None, Ok}
use mathlib.Core.Path.{◌≡◌, refl, sym, ap, ◌∙◌}
use mathlib.Core.List.{List, append-nil}
use Prim.Native.Nat.{ℕ, ◌+◌, ◌*◌, ◌≤◌}
use native.Mathlib.Nat.{mul-le-mul}
use native.Mathlib.Omega.{arith}
use lib.Dec.{lit<}
use lib.ListN.{length, take, drop, length-take}
use lib.Seq.{take_at, drop-length}
use lib.Ieee.{Float}
use borrow.Author.Tests.{le-leb, le-ltb}
use Rattle.answer.specs.declared.Point.{Point}
use Rattle.candidates.specs.declared.Candidate.{Candidate}
use Rattle.closure.specs.Limits.{contour_limit, pair_limit}
use Rattle.fields.specs.Limits.{candidate_limit}
use Rattle.fields.specs.Layout.{contours_of, pairs_of}
use Rattle.card.specs.declared.Named.{Named}
use Rattle.card.specs.Names.{pairs_on, named_as, named_of, named_within}
use Rattle.card.specs.Stages.{name_fault}
use Rattle.answer.specs.Lowest.{refuse_at}
use Rattle.answer.proofs.StageLaws.{is_fine}
use Rattle.card.proofs.GroupLaws.{fine_absent}
use Rattle.card.proofs.NameLaws.{named_front, named_whole, named_within_lem}
use Rattle.card.specs.Limits.{today}
use Rattle.card.specs.Verdict.{stages_within, check_of, check_within}
use Rattle.card_laws.proofs.Facts.{accepted}
use Rattle.table.specs.Distances.{homed, tabled, homes_of, distances_of}
use Rattle.table.proofs.DistanceLaws.{homes_length, distances-length}
use Rattle.instance.specs.declared.Instance.{Instance}
use Rattle.instance.specs.declared.Prepared.{Prepared}
use Rattle.instance.specs.Room.{instance_of}
use Rattle.instance.specs.Search.{home_on, candidates_on, count_on, owners_on, firsts_on, chart_on}
use Rattle.instance.specs.Prepared.{no_distances, prepared_of, Front, HeldOn, PreparedOn, chart_in}
use Rattle.instance.proofs.GatherLaws.{owners-length, firsts-length}
use Rattle.instance.proofs.FineLaws.{few_candidates, count_is, contours_is, items_lent, owner_lent, first_lent}

-- a part that is lent, from what it holds
pub front_is : {A : Type 0} (n : ℕ) (room l : List A) → take n room ≡ l → length l ≡ n → Front n room l
front_is n room l e k =
    let whole : n ≡ length (take n room) = sym (ap length e ∙ k) in
    let t = length-take n room in
    record { front = e; whole = whole; within = omega arith }

-- ---- what is gathered

-- each part of what is gathered of an accepted card
pub held_on : (s : List ℕ) → check_of s ≡ Ok tt → (all : Instance) → all ≡ instance_of s → HeldOn s all
held_on s fine all is =
    let count : all.count ≡ count_on s = ap (λ (a : Instance). a.count) is ∙ count_is s fine in
    let contours : all.contours ≡ contours_of s = ap (λ (a : Instance). a.contours) is ∙ contours_is s fine in
    let few : all.count ≤ candidate_limit = let f = few_candidates s fine in omega arith in
    record {
      contours = contours;
      few_contours = let f = (accepted s fine).few_contours in omega arith;
      count = count;
      few = few;
      few_entries = mul-le-mul {n₂ = candidate_limit} {m₂ = candidate_limit} few few;
      items = front_is all.count all.items (candidates_on s)
          (ap (λ (a : Instance). take a.count a.items) is ∙ items_lent s fine) (sym count);
      owner = front_is all.count all.owner (owners_on s)
          (ap (λ (a : Instance). take a.count a.owner) is ∙ owner_lent s fine)
          (owners-length s (contours_of s) ∙ sym count);
      first = front_is (all.contours + 1) all.first (firsts_on s)
          (ap (λ (a : Instance). take (a.contours + 1) a.first) is ∙ first_lent s fine)
          (firsts-length s (contours_of s) ∙ ap (λ (n : ℕ). n + 1) (sym contours));
    }

-- ---- the distances

module _ (items : List Candidate) (t : ℕ) (few : t ≤ candidate_limit) (w : t ≡ length (take t items)) where
  -- those from home stand at the front of their room
  homes_front : (home : Point) → Front t (homed items t home no_distances) (homes_of (take t items) home)
  unfolding homed
  homes_front home =
      let all = homes_of (take t items) home in
      let long : length all ≡ t = homes_length (take t items) home ∙ sym w in
      front_is t (homed items t home no_distances) all
      (rw (long, le-leb t candidate_limit few) (take_at all (drop t no_distances) t long)) long

  module _ (owner : List ℕ) (room after : List Float) (e : after ≡ tabled items t owner room) where
    long : length (distances_of (take t items) owner) ≡ t * t
    long = distances-length (take t items) owner ∙ ap (λ (k : ℕ). k * k) (sym w)

    -- those between candidates stand at the front of theirs
    pub table_front : t * t ≤ length room → Front (t * t) after (distances_of (take t items) owner)
    unfolding tabled
    table_front l =
        let all = distances_of (take t items) owner in
        front_is (t * t) after all
        (ap (take (t * t)) e ∙ rw (long, le-leb t candidate_limit few, le-leb (t * t) (length room) l)
        (take_at all (drop (t * t) room) (t * t) long))
        long

    -- and fill a room of their size
    pub table_fills : t * t ≡ length room → after ≡ distances_of (take t items) owner
    unfolding tabled
    table_fills l =
        e ∙ rw (long, le-leb t candidate_limit few, le-leb (t * t) (length room) (omega arith), l, drop-length room)
        (append-nil (distances_of (take t items) owner))

-- ---- all that is prepared

pub prepared_is : (s : List ℕ) {all : Instance} {home : Point} {homes : List Float} {named : Named}
    → all ≡ instance_of s → home ≡ home_on s → homes ≡ homed all.items all.count home no_distances
    → named ≡ named_of s
    → record { all = all; homes = homes; pairs = named.positions; seats = named.count } ≡ prepared_of s
unfolding prepared_of
prepared_is s a h d n = rw (n, d, h, a)

-- the pairs' positions stand at the front of theirs
pairs-on : (s : List ℕ) → check_of s ≡ Ok tt → Front (named_of s).count (named_of s).positions (pairs_on s)
unfolding named_within check_within
pairs-on s fine =
    let a = accepted s fine in
    let ten : refuse_at 10 (name_fault s) ≡ Ok tt = is_fine (stages_within today s) fine 10 (lit< tt) in
    let known : name_fault s ≡ None = fine_absent 10 (name_fault s) ten in
    let all : named_of s ≡ named_as None (pairs_on s) =
    rw (le-ltb contour_limit (contours_of s) a.few_contours, le-ltb pair_limit (pairs_of s) a.few_pairs, known) in
    record {
      front = named_front None (pairs_on s) all;
      whole = named_whole None (pairs_on s) all;
      within = named_within_lem None (pairs_on s) all;
    }

-- each part of what is prepared of an accepted card
pub prepared_on : (s : List ℕ) → check_of s ≡ Ok tt → (p : Prepared) → p ≡ prepared_of s → PreparedOn s p
unfolding prepared_of
prepared_on s fine p is =
    let all = instance_of s in
    let held = held_on s fine all refl in
    let homes = homes_front all.items all.count held.few held.items.whole (home_on s) in
    rw is record { held = held; homes = rw held.items.front at homes; pairs = pairs-on s fine }

-- the search reads of it what it is to read of the card
pub chart_on_lem : (s : List ℕ) (p : Prepared) → PreparedOn s p → chart_in p ≡ chart_on s
unfolding chart_in chart_on
chart_on_lem s p h =
    let a = h.held in
    rw (h.homes.front, a.items.front, a.owner.front, a.first.front, h.pairs.front, a.count)
