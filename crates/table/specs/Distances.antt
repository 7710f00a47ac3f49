-- The distances that a search reads: from home to each candidate, and from each candidate to each other. Assumes
-- nothing.
use Rattle.std.specs.Prelude.{cond, ◌&&◌, List, [], ◌∷◌, ◌++◌, ℕ, zero, suc, ◌*◌, eqb, leb, Float, length, get_or, take}
use Rattle.answer.specs.declared.Point.{Point}
use Rattle.answer.specs.Room.{placed}
use Rattle.candidates.specs.declared.Candidate.{Candidate}
use Rattle.candidates.specs.Generate.{candidate_at}
use Rattle.candidates.specs.Along.{spot}
use Rattle.answer.specs.declared.CutDirection.TheVariants.{Ccw}
use Rattle.fields.specs.Limits.{candidate_limit}
use Rattle.points.specs.Points.{point, nowhere}
use Rattle.points.specs.Numbers.{huge}
use Rattle.points.specs.Distance.{distance_of}

-- the most entries that the distances of a card take
abbrev pub entry_limit : ℕ
entry_limit = candidate_limit * candidate_limit

-- what is read where there is no candidate: points that are no numbers
abbrev pub absent : Candidate
absent = candidate_at Ccw (spot nowhere 0)

-- where the beam pierces, and where it stands after the cut
abbrev pub pierced : Candidate → Point
pierced c = point c.x c.y

abbrev pub leaving : Candidate → Point
leaving c = point c.end_x c.end_y

-- from candidate c of contour k to candidate d of contour m; within one contour the largest float
unfoldable pub leg_of : Candidate → ℕ → Candidate → ℕ → Float
leg_of c k d m = cond (eqb k m) huge (distance_of (leaving c) (pierced d))

-- the candidates by number, with the contour of each
unfoldable pub leg_at : List Candidate → List ℕ → ℕ → ℕ → Float
unfolding leg_of
leg_at cs owner a b = leg_of (get_or cs a absent) (get_or owner a 0) (get_or cs b absent) (get_or owner b 0)

-- what f says of each of the k numbers from a on, in order
unfoldable pub listed : {A : Type 0} → (ℕ → A) → ℕ → ℕ → List A
listed f zero a = []
listed f (suc k) a = f a ∷ listed f k (suc a)

-- the same where f says a list of each: one list after the other
unfoldable pub chained : {A : Type 0} → (ℕ → List A) → ℕ → ℕ → List A
chained f zero a = []
chained f (suc k) a = f a ++ chained f k (suc a)

-- the row of candidate a among t of them
unfoldable pub row_of : List Candidate → List ℕ → ℕ → ℕ → List Float
unfolding leg_at listed
row_of cs owner t a = listed (leg_at cs owner a) t 0

-- all distances, row by row
unfoldable pub distances_of : List Candidate → List ℕ → List Float
unfolding row_of chained
distances_of cs owner = chained (row_of cs owner (length cs)) (length cs) 0

-- how far candidate a is from home
unfoldable pub home_leg : List Candidate → Point → ℕ → Float
home_leg cs home a = distance_of home (pierced (get_or cs a absent))

-- how far each candidate is from home
unfoldable pub homes_of : List Candidate → Point → List Float
unfolding home_leg listed
homes_of cs home = listed (home_leg cs home) (length cs) 0

-- a room after these distances of t candidates: it is left as it was where it is too small or the candidates are too
-- many
abbrev pub written : ℕ → List Float → List Float → List Float
written t l room = cond (leb t candidate_limit && leb (length l) (length room)) (placed l room) room

-- a room after the distances of the first t candidates
unfoldable pub tabled : List Candidate → ℕ → List ℕ → List Float → List Float
unfolding distances_of
tabled items t owner room = written t (distances_of (take t items) owner) room

-- a room after their distances from home
unfoldable pub homed : List Candidate → ℕ → Point → List Float → List Float
unfolding homes_of
homed items t home room = written t (homes_of (take t items) home) room
