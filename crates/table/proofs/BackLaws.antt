-- Between candidates whose cuts end where they begin it is as far back as there, to the bit. So what is known of a row
-- stands in a column of the rows above it. Assumes nothing.
use mathlib.Core.Bool.{Bool, true, false, cond, ◌&&◌, true≢false}
use mathlib.Core.List.{List, ◌++◌}
use mathlib.Core.Path.{◌≡◌, refl, sym, ap, ap₂, ◌∙◌}
use Prim.Native.Nat.{ℕ, ◌+◌, ◌-◌, ◌*◌, ◌≤◌, ◌<◌}
use native.Mathlib.Nat.{zero-add, suc-mul}
use native.Mathlib.Numerals.{add-one}
use native.Mathlib.Omega.{arith}
use borrow.Author.Count.{below_more}
use borrow.Author.Tests.{eq-eqb, ne_eqb, eqb-true, eqb-false}
use lib.Dec.{eqb}
use lib.Ieee.{Float, nan}
use lib.ListN.{length, get_or, set, take, drop, length-drop, get_or-append}
use lib.Seq.{get_or-take, take_all, take_at, drop_at, drop-drop, length-take-le, ext_get_or, paste, paste-suc}
use Rattle.answer.specs.declared.Point.{Point}
use Rattle.candidates.specs.declared.Candidate.{Candidate}
use Rattle.points.specs.Distance.{distance_of}
use Rattle.points.specs.Numbers.{huge}
use Rattle.points.proofs.DistanceLaws.{distance_sym}
use Rattle.table.specs.Evaluate.{distance_at}
use Rattle.table.specs.Distances.{absent, pierced, leaving, leg_of, leg_at, listed, chained, row_of}
use Rattle.table.proofs.PlaceLaws.{row_fits}
use Rattle.table.proofs.FillLaws.{listed-length, listed_at, chained-at, chained-length, begun_with}
use Rattle.table.proofs.FillLaws.{paste-before, paste_there, paste_behind, paste_read}
use Rattle.table.proofs.DistanceLaws.{row-length}
use Rattle.table.proofs.RoomLaws.{table_more}

eqb_back : (k m : ℕ) → eqb k m ≡ eqb m k
eqb_back k m = go (eqb k m) refl
  where
    go : (p : Bool) → eqb k m ≡ p → p ≡ eqb m k
    go true e = sym (eq-eqb m k (sym (eqb-true k m e)))
    go false e = sym (ne_eqb m k (λ q. eqb-false k m e (sym q)))

-- the way back is as long as the way there
pub leg-back : (c d : Candidate) (k m : ℕ) → leaving c ≡ pierced c → leaving d ≡ pierced d
    → leg_of c k d m ≡ leg_of d m c k
unfolding leg_of
leg-back c d k m ends-c ends-d =
    ap₂ (λ (same : Bool) (x : Float). cond same huge x) (eqb_back k m)
    (ap (λ (p : Point). distance_of p (pierced d)) ends-c
    ∙ distance_sym (pierced c) (pierced d)
    ∙ ap (λ (p : Point). distance_of p (pierced c)) (sym ends-d))

-- ---- what is known

-- candidate i's cut ends where it begins
abbrev pub Closed : List Candidate → ℕ → Type 0
Closed items i = leaving (get_or items i absent) ≡ pierced (get_or items i absent)

-- one candidate more of which it was asked
pub closed_more : (items : List Candidate) (so_far more : Bool) (a : ℕ)
    → (so_far ≡ true → (i : ℕ) → i < a → Closed items i) → (more ≡ true → Closed items a) → (so_far && more) ≡ true
    → (i : ℕ) → i < a + 1 → Closed items i
closed_more items true true a before here e = below_more (Closed items) a (before refl) (here refl)
closed_more items true false a before here e = absurd (true≢false (sym e))
closed_more items false more a before here e = absurd (true≢false (sym e))

pub known_some : (closed : Bool) (a known : ℕ) → known ≡ cond closed a 0 → (known ≤ a) × (0 < known → closed ≡ true)
known_some true a known e = (omega arith, λ h. refl)
known_some false a known e = (omega arith, λ h. absurd (omega arith))

-- ---- what is copied

-- column a of a room with t entries a row
abbrev pub column_of : List Float → ℕ → ℕ → List Float
column_of room t a = listed (λ (b : ℕ). distance_at room t b a) t 0

module _ (room : List Float) (t a : ℕ) where
  column_size : length (column_of room t a) ≡ t
  column_size = listed-length (λ (b : ℕ). distance_at room t b a) t 0

  column_at : (b : ℕ) → b < t → get_or (column_of room t a) b nan ≡ distance_at room t b a
  column_at b h = listed_at (λ (i : ℕ). distance_at room t i a) t 0 b nan h ∙ rw zero-add

  -- one entry more of row a, copied from the column
  pub copied_more : (b : ℕ) (now : List Float) → now ≡ paste room (a * t) (column_of room t a) b → a < t → b < a
      → t * t ≤ length room
      → set now (a * t + b) (get_or now (b * t + a) nan) ≡ paste room (a * t) (column_of room t a) (b + 1)
  copied_more b now so_far here h enough =
      let column = column_of room t a in
      let fits = row_fits a t t here in
      let size = column_size in
      let above : b * t + a < a * t = omega (arith, row_fits b a t h) in
      let kept : get_or now (b * t + a) nan ≡ distance_at room t b a =
      rw so_far (paste_read room (a * t) column b (omega arith) (omega arith) (b * t + a) nan above) in
      let read : get_or now (b * t + a) nan ≡ get_or column b nan = kept ∙ sym (column_at b (omega arith)) in
      rw (read, so_far, add-one b) (paste-suc room (a * t) column b nan (omega arith) (omega arith))

module _ (items : List Candidate) (t : ℕ) (owner : List ℕ) (a known : ℕ) (room now after : List Float)
    (so_far : now ≡ chained (row_of (take t items) owner t) a 0 ++ drop (a * t) room) (here : a < t) (few : known ≤ a)
    (ends : 0 < known → (i : ℕ) → i < a + 1 → Closed items i)
    (enough : t * t ≤ length now) (copy : after ≡ paste now (a * t) (column_of now t a) known) where
  rows : List Float
  rows = chained (row_of (take t items) owner t) a 0

  size : length rows ≡ a * t
  unfolding rows
  size = chained-length (row_of (take t items) owner t) t (row-length (take t items) owner t) a 0

  -- the entry for b and a in a row above is the way from b to a
  entry_above : (b : ℕ) → b < a → distance_at now t b a ≡ leg_at (take t items) owner b a
  unfolding row_of rows
  entry_above b h =
      let above : b * t + a < a * t = omega (arith, row_fits b a t h) in
      rw so_far
      (get_or-append rows (drop (a * t) room) nan (b * t + a) (rw size above)
      ∙ chained-at (row_of (take t items) owner t) t (row-length (take t items) owner t) a 0 b a nan h here
      ∙ rw zero-add (listed_at (leg_at (take t items) owner b) t 0 a nan here ∙ rw zero-add))

  -- and as long as the way from a to b, where that is known
  entry_known : (b : ℕ) → b < known → distance_at now t b a ≡ leg_at (take t items) owner a b
  unfolding leg_at
  entry_known b h =
      entry_above b (omega arith)
      ∙ rw (get_or-take t items a absent here, get_or-take t items b absent (omega arith))
      (leg-back (get_or items b absent) (get_or items a absent) (get_or owner b 0) (get_or owner a 0)
      (ends (omega arith) b (omega arith)) (ends (omega arith) a (omega arith)))

  inside : a * t ≤ length now
  inside = omega (arith, row_fits a t t here)

  long : known ≤ length (column_of now t a)
  long = omega (arith, column_size now t a)

  -- so the front of the column is the front of the row
  column_known : take known (column_of now t a) ≡ listed (leg_at (take t items) owner a) known 0
  column_known =
      let same = length-take-le known (column_of now t a) long in
      ext_get_or nan (take known (column_of now t a)) (listed (leg_at (take t items) owner a) known 0)
      (same ∙ sym (listed-length (leg_at (take t items) owner a) known 0))
      (λ i h. get_or-take known (column_of now t a) i nan (omega (arith, same))
      ∙ column_at now t a i (omega (arith, same))
      ∙ entry_known i (omega (arith, same))
      ∙ sym (listed_at (leg_at (take t items) owner a) known 0 i nan (omega (arith, same)) ∙ rw zero-add))

  -- and stands there, once it is copied
  pub row-begun : take known (take (length after - a * t) (drop (a * t) after))
      ≡ listed (leg_at (take t items) owner a) known 0
  row-begun =
      let most : length (drop (a * t) after) ≤ length after - a * t = rw length-drop (omega arith) in
      rw (take_all (length after - a * t) (drop (a * t) after) most, copy)
      (paste_there now (a * t) (column_of now t a) known inside long ∙ column_known)

  -- with the rest of the row there is one row more, and all behind it is kept
  pub row_done : (part : List Float)
      → part ≡ row_of (take t items) owner t a ++ drop t (take (length after - a * t) (drop (a * t) after)) →
      take (a * t) after ++ (part ++ drop (length after - a * t) (drop (a * t) after))
      ≡ chained (row_of (take t items) owner t) (a + 1) 0 ++ drop ((a + 1) * t) room
  unfolding rows
  row_done part e =
      let front : take (a * t) after ≡ take (a * t) now =
      rw copy (paste-before now (a * t) (column_of now t a) known inside long) in
      let behind : drop (a * t + t) after ≡ drop (a * t + t) now =
      rw copy (paste_behind now (a * t) (column_of now t a) known inside long t (omega arith)) in
      let above : take (a * t) after ≡ rows =
      front ∙ rw so_far (take_at rows (drop (a * t) room) (a * t) size) in
      let next : (a + 1) * t ≡ a * t + t = rw (add-one a, suc-mul) in
      let kept : drop ((a + 1) * t) after ≡ drop ((a + 1) * t) room =
      rw next
      (behind
      ∙ sym (drop-drop t (a * t) now)
      ∙ ap (drop t) (rw so_far (drop_at rows (drop (a * t) room) (a * t) size))
      ∙ drop-drop t (a * t) room) in
      table_more items t owner after a after (begun_with (a * t) rows after above) part e
      ∙ ap (λ (rest : List Float). chained (row_of (take t items) owner t) (a + 1) 0 ++ rest) kept
