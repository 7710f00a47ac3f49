-- How bridges come to stand in their room, one at a time. Assumes nothing.
use mathlib.Core.Path.{◌≡◌, refl, sym, ap, ◌∙◌}
use mathlib.Core.List.{List, [], ◌∷◌, ◌++◌, map, map-append}
use Prim.Native.Nat.{ℕ, zero, suc, ◌+◌, ◌-◌, ◌≤◌, ◌<◌}
use native.Mathlib.Nat.{not-suc-le-zero, le_of_suc-le-suc}
use native.Mathlib.Numerals.{add-one}
use native.Mathlib.Omega.{arith}
use lib.ListN.{length, get_or, take, set, replicate, length-map, get_or-append, get_or-map}
use lib.Seq.{take-suc, take_all, length-take-le}
use lib.Ieee.{Float, nan}
use Rattle.answer.specs.declared.Point.{Point}
use Rattle.answer.specs.Room.{padded}
use Rattle.answer.proofs.RoomLaws.{any_default, padded-length, padded-one}
use Rattle.bridge.specs.declared.Bridge.{Bridge}
use Rattle.bridge.specs.Limits.{bridge_limit}
use Rattle.bridge.specs.Lookup.{marks}
use Rattle.bridge.specs.Create.{bridge_at, bridges_at, blank}
use Rattle.bridge.specs.Question.{filled}
use Rattle.bridge.specs.Words.{Places}

-- ---- in their room

module _ (ps : List Point) (ms : List Float) (half : Float) (centres : List Float) where
  -- the room with the bridges of the first k centres
  abbrev pub room : ℕ → List Bridge
  room k = padded bridge_limit blank (bridges_at ps ms half (take k centres))

  pub bridges_length : (l : List Float) → length (bridges_at ps ms half l) ≡ length l
  unfolding bridges_at
  bridges_length l = length-map l (bridge_at ps ms half)

  -- bridge i is centre i's
  pub bridges_at_lem : (i : ℕ) (b : Bridge) → i < length centres
      → get_or (bridges_at ps ms half centres) i b ≡ bridge_at ps ms half (get_or centres i nan)
  unfolding bridges_at
  bridges_at_lem i b h =
      let f = bridge_at ps ms half in
      any_default (map f centres) i b (f nan) (rw (length-map centres f) h) ∙ get_or-map f centres i nan

  pub room_more : (k : ℕ) → k < length centres → length centres ≤ bridge_limit
      → set (room k) k (bridge_at ps ms half (get_or centres k nan)) ≡ room (k + 1)
  unfolding bridges_at
  room_more k h few =
      let f = bridge_at ps ms half in
      let long : length (map f (take k centres)) ≡ k =
      length-map (take k centres) f ∙ length-take-le k centres (omega arith) in
      padded-one bridge_limit blank (map f (take k centres)) (f (get_or centres k nan)) k long (omega arith)
      ∙ ap (λ (l : List Bridge). padded bridge_limit blank l)
      (sym (map-append f (take k centres) (get_or centres k nan ∷ [])))
      ∙ ap (λ (l : List Float). padded bridge_limit blank (map f l))
      (sym (take-suc centres k nan h) ∙ ap (λ (n : ℕ). take n centres) (sym (add-one k)))

  pub room_full : (k : ℕ) → k ≡ length centres
      → record { items = room k; count = length centres } ≡ filled (bridges_at ps ms half centres)
  unfolding filled
  room_full k e =
      let all : take k centres ≡ centres = take_all k centres (omega arith) in
      ap (λ (l : List Float). record {
        items = padded bridge_limit blank (bridges_at ps ms half l);
        count = length centres;
      }) all
      ∙ ap (λ (n : ℕ). record {
        items = padded bridge_limit blank (bridges_at ps ms half centres);
        count = n;
      }) (sym (bridges_length centres))

-- ---- what stands where

past_front : {A : Type 0} (l : List A) (n i : ℕ) (a : A) → length l ≤ i → get_or (l ++ replicate n a) i a ≡ a
past_front [] zero i a h = refl
past_front [] (suc n) zero a h = refl
past_front [] (suc n) (suc i) a h = past_front [] n i a (omega arith)
past_front (x ∷ l) n zero a h = absurd (not-suc-le-zero h)
past_front (x ∷ l) n (suc i) a h = past_front l n i a (le_of_suc-le-suc h)

pub places : (ps : List Point) (half : Float) (centres : List Float) → Places ps half centres
unfolding filled
places ps half centres =
    let l = bridges_at ps (marks ps) half centres in
    let n = length l in
    let long = bridges_length ps (marks ps) half centres centres in
    record {
      size = λ few. padded-length bridge_limit blank l (rw long few);
      count = long;
      bridge = λ i h. get_or-append l (replicate (bridge_limit - n) blank) blank i (rw long h)
          ∙ bridges_at_lem ps (marks ps) half centres i blank h;
      spare = λ i h. past_front l (bridge_limit - n) i blank (rw long h);
    }
