-- What a host's room holds after a call for bridges. Assumes nothing.
use Rattle.std.specs.Prelude.{Err, None, Ok, Some}
use Rattle.std.proofs.Common.{◌≡◌, ℕ, zero, suc, ◌+◌, ◌*◌, ◌/◌, ◌<◌, ◌≤◌, Bool, true, false, ltb, ◌↔◌, List, [], ◌∷◌, ◌++◌, length, get_or, drop, refl, ap, ◌∙◌, le_of_suc-le-suc, not-suc-le-zero, zero-add, arith, lit<}
use lib.ListN.{get_or-append}
use lib.Seq.{sets, sets-eq}
use lib.Ieee.{Float, nan, lt}
use Rattle.answer.specs.declared.Refusal.{Refusal}
use Rattle.answer.specs.Answer.{Check, Found, unless}
use Rattle.answer.specs.Lowest.{refuse_at, refuse_if}
use Rattle.answer.specs.Stage.{or_else, first_refusal}
use Rattle.answer.specs.Code.{code_of}
use Rattle.answer.specs.Room.{placed}
use Rattle.fields.specs.Limits.{vertex_limit}
use Rattle.points.specs.Points.{points}
use Rattle.points.specs.Bad.{first_bad}
use Rattle.points.specs.Numbers.{tiny}
use Rattle.candidates.specs.Along.{perimeter_of}
use Rattle.candidates.specs.Question.{outside, contour_check}
use Rattle.bridge.specs.declared.Bridge.{Bridge}
use Rattle.bridge.specs.Limits.{bridge_limit}
use Rattle.bridge.specs.Lookup.{marks}
use Rattle.bridge.specs.Create.{bridge_at, bridges_at, blank}
use Rattle.bridge.specs.Question.{half_of, bad_width, first_off, after_width, way_check, bridge_check, filled, bridges_of}
use Rattle.bridge.proofs.FillLaws.{bridges_length, bridges_at_lem}
use Rattle.bridge.proofs.QuestionLaws.{fine_few}
use Rattle.bridge.proofs.AnswerLaws.{accepted, items_front}
use Rattle.host.specs.Bridges.{bridge_numbers, eight_of, numbers_of, Spanned, spanned, bridges_told, host_bridges, Claim}
use Rattle.host.proofs.BridgeLaws.{numbers_length}

-- stored from the first entry on: the front written, the rest kept
front : (l room : List Float) → length l ≤ length room → sets room 0 l ≡ placed l room
front l room h =
    sets-eq l room 0 (rw zero-add h) ∙ ap (λ (n : ℕ). l ++ drop n room) (zero-add (length l))

past_eight : (b : Bridge) (m : List Float) (i : ℕ) → get_or (eight_of b ++ m) (8 + i) nan ≡ get_or m i nan
past_eight b m i =
    let e : 8 + i ≡ suc (suc (suc (suc (suc (suc (suc (suc i))))))) = omega arith in
    rw e

-- number j of bridge i
number_at : (l : List Bridge) (i j : ℕ) (b : Bridge) → i < length l → j < 8
    → get_or (numbers_of l) (8 * i + j) nan ≡ get_or (eight_of (get_or l i b)) j nan
unfolding numbers_of
number_at [] i j b h g = absurd (not-suc-le-zero h)
number_at (x ∷ l) zero j b h g =
    let e : 8 * 0 + j ≡ j = omega arith in
    rw e (get_or-append (eight_of x) (numbers_of l) nan j g)
number_at (x ∷ l) (suc i) j b h g =
    let e : 8 * suc i + j ≡ 8 + (8 * i + j) = omega arith in
    rw e (past_eight x (numbers_of l) (8 * i + j) ∙ number_at l i j b (le_of_suc-le-suc h) g)

-- ---- no refusal of bridges has number 0

abbrev Numbered : Check → Type 0
Numbered (Ok _) = Unit {0}
Numbered (Err r) = 0 < r.number

both_numbered : (a b : Check) → Numbered a → Numbered b → Numbered (or_else a b)
both_numbered (Ok _) b n m = m
both_numbered (Err r) b n m = n

if_numbered : (b : Bool) (number place : ℕ) → 0 < number → Numbered (refuse_if b number place)
if_numbered true number place h = h
if_numbered false number place h = tt

at_numbered : (f : Found) (number : ℕ) → 0 < number → Numbered (refuse_at number f)
at_numbered (Some k) number h = h
at_numbered None number h = tt

contour_numbered : (numbers : List Float) → Numbered (contour_check numbers)
unfolding contour_check first_refusal
contour_numbered numbers =
    let v = (length numbers + 1) / 2 in
    let bad = refuse_at 8 (first_bad numbers v) in
    both_numbered (refuse_if (outside vertex_limit v) 6 v) (or_else bad (Ok tt))
    (if_numbered (outside vertex_limit v) 6 v (lit< tt))
    (both_numbered bad (Ok tt) (at_numbered (first_bad numbers v) 8 (lit< tt)) tt)

way_numbered : (whole width : Float) (centres : List Float) → Numbered (way_check whole width centres)
unfolding way_check first_refusal
way_numbered whole width centres =
    let off = after_width (first_off whole centres) in
    let last = or_else (refuse_at 18 off) (Ok tt) in
    both_numbered (refuse_if (lt whole tiny) 18 0) (or_else (refuse_if (bad_width whole width) 18 1) last)
    (if_numbered (lt whole tiny) 18 0 (lit< tt))
    (both_numbered (refuse_if (bad_width whole width) 18 1) last (if_numbered (bad_width whole width) 18 1 (lit< tt))
    (both_numbered (refuse_at 18 off) (Ok tt) (at_numbered off 18 (lit< tt)) tt))

bridges_numbered : (numbers : List Float) (width : Float) (centres : List Float)
    → Numbered (bridge_check numbers width centres)
unfolding bridge_check
bridges_numbered numbers width centres =
    let way = way_check (perimeter_of (points numbers)) width centres in
    both_numbered (refuse_if (ltb bridge_limit (length centres)) 13 bridge_limit) (or_else (contour_check numbers) way)
    (if_numbered (ltb bridge_limit (length centres)) 13 bridge_limit (lit< tt))
    (both_numbered (contour_check numbers) way (contour_numbered numbers)
    (way_numbered (perimeter_of (points numbers)) width centres))

-- ---- what is told

module _ (numbers : List Float) (width : Float) (centres room : List Float) (whole : length room ≡ bridge_numbers) where
  abbrev all : List Bridge
  all = bridges_at (points numbers) (marks (points numbers)) (half_of width) centres

  module _ (fine : bridge_check numbers width centres ≡ Ok tt) where
    given : bridges_of numbers width centres ≡ Ok (filled all)
    given = accepted numbers width centres fine

    count : length all ≡ length centres
    count = bridges_length (points numbers) (marks (points numbers)) (half_of width) centres centres

    told_fine : host_bridges numbers width centres room ≡ spanned 0 (placed (numbers_of all) room)
    unfolding host_bridges
    told_fine =
        rw (given, items_front numbers width centres (filled all) given)
        (ap (λ (r : List Float). spanned 0 r)
        (front (numbers_of all) room
        (omega (arith, numbers_length all, count, fine_few numbers width centres fine))))

    told-each : (i j : ℕ) → i < length centres → j < 8
        → get_or (host_bridges numbers width centres room).room (8 * i + j) nan
        ≡ get_or (eight_of (bridge_at (points numbers) (marks (points numbers)) (half_of width) (get_or centres i nan))) j nan
    told-each i j h g =
        let n : 8 * i + j < length (numbers_of all) = omega (arith, numbers_length all, count) in
        ap (λ (s : Spanned). get_or s.room (8 * i + j) nan) told_fine
        ∙ get_or-append (numbers_of all) (drop (length (numbers_of all)) room) nan (8 * i + j) n
        ∙ number_at all i j blank (rw count h) g
        ∙ ap (λ (b : Bridge). get_or (eight_of b) j nan)
        (bridges_at_lem (points numbers) (marks (points numbers)) (half_of width) centres i blank h)

  told_good : ((host_bridges numbers width centres room).answer ≡ 0) ↔ (bridge_check numbers width centres ≡ Ok tt)
  unfolding host_bridges bridges_of
  told_good = (good (bridge_check numbers width centres) (bridges_numbered numbers width centres), λ e. rw e)
    where
      good : (c : Check) → Numbered c → (bridges_told (unless c (filled all)) room).answer ≡ 0 → c ≡ Ok (tt {0})
      good (Ok _) n e = refl
      good (Err r) n e = absurd (omega arith)

  told-refused : (r : Refusal) → bridge_check numbers width centres ≡ Err r
      → host_bridges numbers width centres room ≡ spanned (code_of (Err r)) room
  unfolding host_bridges bridges_of
  told-refused r e = rw e

pub claim : Claim
claim numbers width centres room whole = record {
  good = told_good numbers width centres room whole;
  fine = told_fine numbers width centres room whole;
  refused = told-refused numbers width centres room whole;
  each = told-each numbers width centres room whole;
}
