-- The candidates of a contour with good coordinates lie where every distance is finite. Assumes nothing.
use Rattle.std.proofs.Common.{◌≡◌, ℕ, suc, ◌+◌, ◌-◌, ◌*◌, ◌<◌, ◌≤◌, min, Bool, true, false, cond, List, [], ◌∷◌}
use Rattle.std.proofs.Common.{length, get_or, pos, sym, refl, le_trans, le_of_eq, mul-le-mul_right, one-mul, mul-one}
use Rattle.std.proofs.Common.{arith, lit≤}
use lib.Ieee.{Float, nan, inf, fin, binary64, down, add, sub, mul, div, lt, of_int, of_bits}
use lib.Ieee.Exact.{HasValue}
use lib.Ieee.Back.{round_whole}
use Rattle.answer.specs.declared.Point.{Point}
use Rattle.answer.specs.declared.CutDirection.{CutDirection}
use Rattle.fields.specs.Limits.{per_contour_limit, vertex_limit}
use Rattle.points.specs.declared.Ends.{Ends}
use Rattle.points.specs.Points.{point, nowhere, edges}
use Rattle.points.specs.Bad.{bad_point}
use Rattle.points.specs.Numbers.{zero64, tiny}
use Rattle.points.specs.Along.{along_of}
use Rattle.grid.specs.Move.{moved_point}
use Rattle.grid.proofs.SizeLaws.{moved_under}
use Rattle.points.proofs.PointLaws.{edges-length, EndsBoth, AllEnds, edges-ends}
use Rattle.points.proofs.SizeLaws.{Under, Plus, Over, Near, under_more, plus_under, plus_more, near_more, add_under}
use Rattle.points.proofs.SizeLaws.{sub_under, add_plus, mul_under, div_under, rem_under, distance_plus, good_near}
use Rattle.points.proofs.SizeLaws.{not-tiny}
use Rattle.candidates.specs.declared.Candidate.{Candidate}
use Rattle.candidates.specs.declared.Spot.{Spot}
use Rattle.candidates.specs.Along.{edge_length, around, perimeter_of, spot, reaches, on_edge, spot_from, last_spot}
use Rattle.candidates.specs.Along.{spot_at}
use Rattle.candidates.specs.Generate.{blank, target, moved_if, candidates_of}
use Rattle.candidates.proofs.EachLaws.{each_has}

-- ---- every vertex is good, so is every edge's end

abbrev pub AllGood : List Point → Type 0
AllGood ps = (j : ℕ) → j < length ps → bad_point (get_or ps j nowhere) ≡ false

abbrev Ended : Ends → Type 0
Ended e = EndsBoth (Near 20) e

abbrev AllEnded : List Ends → Type 0
AllEnded es = AllEnds (Near 20) es

edges-ended : (ps : List Point) → AllGood ps → AllEnded (edges ps)
edges-ended ps good = edges-ends (Near 20) ps (λ j h. good_near (get_or ps j nowhere) (good j h))

length_plus : (e : Ends) → Ended e → Plus 25 (edge_length e)
length_plus e n = distance_plus 20 e.start e.finish (lit≤ tt) n.0 n.1

-- ---- the way around

around_plus : (sum : Float) (es : List Ends) (j : ℕ) → AllEnded es → 25 ≤ j → j + 2 * length es ≤ 1000 → Plus j sum
    → Plus (j + 2 * length es) (around sum es)
unfolding around
around_plus sum [] j n low high u = plus_more sum (omega arith) u
around_plus sum (e ∷ more) j n low high u =
    let w = add_plus j sum (edge_length e) (omega arith) u (plus_more (edge_length e) low (length_plus e n.0)) in
    plus_more (around (add binary64 sum (edge_length e)) more) (omega arith)
    (around_plus (add binary64 sum (edge_length e)) more (suc (suc j)) n.1 (omega arith) (omega arith) w)

zero_plus : Plus 25 zero64
unfolding of_bits
zero_plus = (refl, lit≤ tt)

perimeter_plus : (ps : List Point) → AllGood ps → length ps ≤ vertex_limit → Plus 85 (perimeter_of ps)
unfolding perimeter_of
perimeter_plus ps good few =
    let e = edges-length ps in
    plus_more {k = 85} (around zero64 (edges ps)) (omega arith)
    (around_plus zero64 (edges ps) 25 (edges-ended ps good) (lit≤ tt) (omega arith) zero_plus)

-- ---- how far along

-- small whole numbers are themselves
whole_under : (x : Float) (c : ℕ) → HasValue x false c 1 → c ≤ 8 → Under 4 x
whole_under nan c v h = absurd v
whole_under (inf s) c v h = absurd v
whole_under (fin s m e) c v h =
    le_trans (le_of_eq (rw mul-one at v.1)) (mul-le-mul_right (down e) (le_trans h (lit≤ tt)))

whole_over : (x : Float) (c : ℕ) → HasValue x false c 1 → 0 < c → Over 0 x
whole_over nan c v h = absurd v
whole_over (inf s) c v h = absurd v
whole_over (fin s m e) c v h =
    le_trans (le_of_eq (one-mul-back (down e))) (le_trans (mul-le-mul_right (down e) h) (le_of_eq (sym v.1)))
  where
    one-mul-back : (d : ℕ) → d ≡ 1 * d
    one-mul-back d = sym (one-mul d)

int_value : (c : ℕ) → c ≤ 8 → HasValue (of_int binary64 (pos c)) false c 1
unfolding of_int
int_value c h = round_whole binary64 false c (le_trans h (lit≤ tt))

target_under : (total : Float) (c k : ℕ) → Plus 85 total → lt total tiny ≡ false → 0 < c → c ≤ 8 → k < c
    → Under 92 (target total c k)
unfolding target
target_under total c k u h low high less =
    let w = not-tiny 85 total u h in
    let spacing =
    div_under 85 0 total (of_int binary64 (pos c)) (lit≤ tt) (plus_under 85 total u)
    (whole_over (of_int binary64 (pos c)) c (int_value c high) low) in
    let far = mul_under 4 86 (of_int binary64 (pos k)) (div binary64 total (of_int binary64 (pos c))) (lit≤ tt)
    (whole_under (of_int binary64 (pos k)) k (int_value k (omega arith)) (omega arith)) spacing in
    rem_under 91 40 (mul binary64 (of_int binary64 (pos k)) (div binary64 total (of_int binary64 (pos c)))) total
    (lit≤ tt) far w

-- ---- the place on an edge

along_near : (e : Ends) (t : Float) → Ended e → Under 135 t → Near 160 (along_of e t)
unfolding along_of
along_near e t n u = record {
  x_under = coordinate e.start.x e.finish.x n.0.x_under n.1.x_under;
  y_under = coordinate e.start.y e.finish.y n.0.y_under n.1.y_under;
}
  where
    coordinate : (a b : Float) → Under 20 a → Under 20 b
        → Under 160 (add binary64 a (mul binary64 t (sub binary64 b a)))
    coordinate a b v w =
        add_under 158 a (mul binary64 t (sub binary64 b a)) (lit≤ tt) (under_more a (lit≤ {m = 20} {n = 158} tt) v)
        (mul_under 135 22 t (sub binary64 b a) (lit≤ tt) u (sub_under 20 b a (lit≤ tt) w v))

edge_near : (d : Float) (i : ℕ) (before : Float) (e : Ends) → Under 92 d → Under 92 before → Ended e
    → Near 160 (on_edge d i before e).point
unfolding on_edge
edge_near d i before e u w n = go (lt (edge_length e) tiny) refl
  where
    go : (b : Bool) → lt (edge_length e) tiny ≡ b
        → Near 160 (cond b (spot e.start i) (spot (along_of e (div binary64 (sub binary64 d before) (edge_length e)))
        i)).point
    go true h = near_more 20 160 e.start (lit≤ tt) n.0
    go false h =
        along_near e (div binary64 (sub binary64 d before) (edge_length e)) n
        (div_under 94 40 (sub binary64 d before) (edge_length e) (lit≤ tt) (sub_under 92 d before (lit≤ tt) u w)
        (not-tiny 25 (edge_length e) (length_plus e n) h))

spot_near : (last : Spot) (d : Float) (i : ℕ) (before : Float) (es : List Ends) (j : ℕ)
    → Near 160 last.point → Under 92 d → AllEnded es → 25 ≤ j → j + 2 * length es ≤ 85 → Plus j before
    → Near 160 (spot_from last d i before es).point
unfolding spot_from
spot_near last d i before [] j l u n low high w = l
spot_near last d i before (e ∷ more) j l u n low high w =
    go (reaches d before after)
    (spot_near last d (suc i) after more (suc (suc j)) l u n.1 (omega arith) (omega arith)
    (add_plus j before (edge_length e) (omega arith) w (plus_more (edge_length e) low (length_plus e n.0))))
  where
    after : Float
    after = add binary64 before (edge_length e)

    go : (b : Bool) → Near 160 (spot_from last d (suc i) after more).point
        → Near 160 (cond b (on_edge d i before e) (spot_from last d (suc i) after more)).point
    go true f = edge_near d i before e u (under_more {k = 92} before (omega arith) (plus_under j before w)) n.0
    go false f = f

-- ---- the candidates

-- no candidate of a contour that was not refused lies farther out than this power of two
abbrev pub outmost : ℕ
outmost = 161

module _ (ps : List Point) (good : AllGood ps) (few : length ps ≤ vertex_limit) (some : 0 < length ps) where
  vertex_near : (j : ℕ) → j < length ps → Near 160 (get_or ps j nowhere)
  vertex_near j h = near_more 20 160 (get_or ps j nowhere) (lit≤ tt) (good_near (get_or ps j nowhere) (good j h))

  spot-at_near : (d : Float) → Under 92 d → Near 160 (spot_at ps d).point
  unfolding spot_at last_spot
  spot-at_near d u =
      let e = edges-length ps in
      spot_near (last_spot ps) d 0 zero64 (edges ps) 25 (vertex_near (length ps - 1) (omega arith)) u
      (edges-ended ps good) (lit≤ tt) (omega arith) zero_plus

  -- moved to the grid or not
  placed_near : (grid : Bool) (d : Float) → Under 92 d → Near outmost (moved_if grid (spot_at ps d)).point
  unfolding moved_point
  placed_near false d u = near_more 160 outmost (spot_at ps d).point (lit≤ tt) (spot-at_near d u)
  placed_near true d u =
      let n = spot-at_near d u in record {
        x_under = moved_under 160 (spot_at ps d).point.x (lit≤ tt) n.x_under;
        y_under = moved_under 160 (spot_at ps d).point.y (lit≤ tt) n.y_under;
      }

-- every candidate of a contour that was not refused is near, so its distance to any other such point, home too, is
-- finite (`distance_below`)
pub each_near : (grid : Bool) (way : CutDirection) (ps : List Point) (c : ℕ) → AllGood ps → length ps ≤ vertex_limit
    → (k : ℕ) → k < length (candidates_of grid way ps c)
    → Near outmost (point (get_or (candidates_of grid way ps c) k blank).x (get_or (candidates_of grid way ps c) k blank).y)
each_near grid way ps c good few =
    each_has (λ (q : Candidate). Near outmost (point q.x q.y)) grid way ps c
    (λ some. near_more 160 outmost (get_or ps 0 nowhere) (lit≤ tt) (vertex_near ps good few some 0 some))
    (λ some h k l.
    placed_near ps good few some grid (target (perimeter_of ps) (min c per_contour_limit) k)
    (target_under (perimeter_of ps) (min c per_contour_limit) k (perimeter_plus ps good few) h (omega arith) (omega arith)
    l))
