-- The scope document's examples of cards, and what is to be said of them. Assumes nothing.
use Rattle.std.specs.Prelude.{◌≡◌, false, List, [], ◌∷◌, ℕ, ◌*◌, Err, Ok}
use Rattle.std.specs.Float.{binary64}
use Rattle.std.specs.Float.Ieee.{of_bits}
use Rattle.answer.specs.declared.Point.{Point}
use Rattle.answer.specs.declared.ContourType.{ContourType}
use Rattle.answer.specs.declared.ContourType.TheVariants.{Exterior, Interior}
use Rattle.answer.specs.declared.CutDirectionPreference.TheVariants.{Auto}
use Rattle.answer.specs.Answer.{Check}
use Rattle.card.specs.Verdict.{check_of}
use Rattle.card_laws.specs.Card.{Card, Contour, Pair}
use Rattle.card_laws.specs.Write.{written}

-- a card like job 41's, of a version and with a number: home at the corner, one candidate a contour, ten passes, no
-- move limit, directions left to the types, no grid asked for
abbrev pub as_job : ℕ → ℕ → List Contour → List Pair → Card
as_job version job contours pairs =
    record {
      version = version;
      job = job;
      per_contour_lem = 1;
      passes = 10;
      move_limit_lem = 0;
      home = record { x = of_bits binary64 0; y = of_bits binary64 0 };
      exterior = Auto;
      interior = Auto;
      grid = false;
      contours = contours;
      pairs = pairs;
    }

abbrev pub as_job41 : List Contour → List Pair → Card
as_job41 = as_job 1 41

-- a contour of no part
abbrev pub partless : ℕ → ℕ → ContourType → List Point → Contour
partless id tag kind vertices =
    record { id = id; tag = tag; kind = kind; vertices = vertices; part = 0; copy = 0 }

-- one of one vertex, given by the bits of its coordinates
abbrev pub dot : ℕ → ℕ → ContourType → ℕ → ℕ → Contour
dot id tag kind x y = partless id tag kind (record { x = of_bits binary64 x; y = of_bits binary64 y } ∷ [])

-- one before another, each with ten times its id as its tag
abbrev pub waits : ℕ → ℕ → Pair
waits before after = record { before-id = before; before-tag = 10 * before; after_id_lem = after; after_tag = 10 * after }

-- a contour at the corner
abbrev pub cornered : ℕ → Contour
cornered id = dot id (10 * id) Exterior 0 0

-- job 41: (12,12), (3,0) and (3,4), the last before the second
abbrev pub seven : Contour
seven = dot 7 70 Exterior 0x4028_0000_0000_0000 0x4028_0000_0000_0000

abbrev pub nine : Contour
nine = dot 9 90 Exterior 0x4008_0000_0000_0000 0

abbrev pub two : Contour
two = dot 2 20 Interior 0x4008_0000_0000_0000 0x4010_0000_0000_0000

abbrev pub job41 : Card
job41 = as_job41 (seven ∷ nine ∷ two ∷ []) (waits 2 9 ∷ [])

-- position 3 waits on itself
abbrev pub self_pair : Card
self_pair = as_job41 (cornered 5 ∷ cornered 6 ∷ cornered 7 ∷ cornered 8 ∷ []) (waits 8 8 ∷ [])

-- position 0 waits on a cycle of 1 and 2
abbrev pub waiting : Card
waiting = as_job41 (cornered 5 ∷ cornered 6 ∷ cornered 7 ∷ []) (waits 6 7 ∷ waits 7 6 ∷ waits 6 5 ∷ [])

abbrev pub verdict_on : Card → Check
verdict_on c = check_of (written c)

pub record Examples : Type 0 where
  pub empty : verdict_on (as_job41 [] []) ≡ Ok tt
  pub pair_of_nobody : verdict_on (as_job41 [] (waits 1 2 ∷ [])) ≡ Err (record { number = 10; place = 0 })
  pub job41_fine : verdict_on job41 ≡ Ok tt
  pub on_itself : verdict_on self_pair ≡ Err (record { number = 12; place = 3 })
  pub on_a_cycle : verdict_on waiting ≡ Err (record { number = 12; place = 1 })
