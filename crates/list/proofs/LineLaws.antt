-- Each line of the list, from the texts that were put one after the other. Assumes nothing.
use Rattle.std.specs.Prelude.{Ok}
use mathlib.Core.Path.{◌≡◌, sym, ap, ◌∙◌}
use mathlib.Core.List.{List, [], ◌∷◌, ◌++◌, append_assoc, append-nil}
use Prim.Native.Nat.{ℕ, ◌+◌, ◌<◌, ◌≤◌}
use native.Mathlib.Numerals.{add-one}
use lib.Ieee.{to_bits, binary64}
use lib.ListN.{length, take, get_or}
use lib.Seq.{take-suc, take_all}
use Rattle.answer.specs.declared.ContourType.{ContourType}
use Rattle.answer.specs.declared.CutDirection.{CutDirection}
use Rattle.answer.specs.declared.CutDirection.TheVariants.{Ccw, Cw}
use Rattle.answer.specs.declared.CutDirectionPreference.{CutDirectionPreference}
use Rattle.answer.specs.declared.Refusal.{Refusal}
use Rattle.candidates.specs.Direction.{direction_of}
use Rattle.fields.specs.Layout.{job_of, contours_of, id_of, tag_of, type_of, exterior_of, interior_of}
use Rattle.fields.specs.Values.{as_type, as_preference}
use Rattle.reader.specs.declared.Head.{Head}
use Rattle.reader.specs.declared.ContourHead.{ContourHead}
use Rattle.reader.specs.OnCard.{head_of, contour_head}
use Rattle.card.specs.Verdict.{check_of}
use Rattle.instance.specs.declared.Instance.{Instance}
use Rattle.instance.specs.Gather.{way_of}
use Rattle.instance.specs.Room.{instance_of}
use Rattle.solve.specs.declared.Outcome.{Outcome}
use Rattle.questions.specs.declared.Local.{Local}
use Rattle.questions.specs.Index.{place_in}
use Rattle.questions.proofs.IndexLaws.{place_on_lem}
use Rattle.text.specs.OnPage.{Puts}
use Rattle.text.specs.declared.Page.{Page as Lent}
use Rattle.text.specs.Text.{bytes, decimal_of, hex_of}
use Rattle.list.specs.Lines.{head_line, way_word, name_words, place_line, stop_line, stop_lines, outcome_lines}
use Rattle.list.specs.Lines.{tour_lines, refusal_line}
use Rattle.text.proofs.PageLaws.{put_on, put_as}

-- how many contours the head says
pub contours_read_lem : (s : List ℕ) (h : Head) → h ≡ head_of s → h.contours ≡ contours_of s
unfolding head_of
contours_read_lem s h e = ap (λ (x : Head). x.contours) e

pub head_put : (s : List ℕ) (h : Head) (p q r t : Lent) → h ≡ head_of s
    → Puts (bytes "JOB " ++ decimal_of h.job) p q → Puts (bytes " CONTOURS " ++ decimal_of h.contours) q r
    → Puts (bytes "\n") r t
    → Puts (head_line s) p t
unfolding head_line head_of
head_put s h p q r t a e f g =
    let j : h.job ≡ job_of s = ap (λ (x : Head). x.job) a in
    rw (← j, ← contours_read_lem s h a) (put_on _ _ p r t (put_on _ _ p q r e f) g)

pub way_is : (s : List ℕ) (k : ℕ) (kind : ContourType) (exterior interior : CutDirectionPreference) (r : CutDirection)
    → kind ≡ as_type (type_of s k) → exterior ≡ as_preference (exterior_of s) → interior ≡ as_preference (interior_of s)
    → r ≡ direction_of kind exterior interior → r ≡ way_of s k
way_is s k kind exterior interior r a b c e = rw (← a, ← b, ← c) e

pub ccw_put : (d : CutDirection) (p q : Lent) → d ≡ Ccw → Puts (bytes " ccw\n") p q → Puts (way_word d) p q
unfolding way_word
ccw_put d p q e f = rw e f

pub cw_put : (d : CutDirection) (p q : Lent) → d ≡ Cw → Puts (bytes " cw\n") p q → Puts (way_word d) p q
unfolding way_word
cw_put d p q e f = rw e f

pub name_put : (s : List ℕ) (k : ℕ) (h : ContourHead) (p q r : Lent) → h ≡ contour_head s k
    → Puts (decimal_of h.id) p q → Puts (bytes " " ++ decimal_of h.tag) q r → Puts (name_words s k) p r
unfolding name_words contour_head
name_put s k h p q r a e f =
    let i : h.id ≡ id_of s k = ap (λ (x : ContourHead). x.id) a in
    let t : h.tag ≡ tag_of s k = ap (λ (x : ContourHead). x.tag) a in
    rw (← i, ← t) (put_on _ _ p q r e f)

pub place_put : (s : List ℕ) (place : Local) (d : CutDirection) (p q r t : Lent) → d ≡ way_of s place.contour
    → Puts (name_words s place.contour) p q → Puts (bytes " " ++ decimal_of place.within) q r
    → Puts (way_word d) r t
    → Puts (place_line s place) p t
unfolding place_line
place_put s place d p q r t w e f g = rw (← w) (put_on _ _ p r t (put_on _ _ p q r e f) g)

pub outcome_put : (o : Outcome) (bits : ℕ) (p q r t u : Lent) → bits ≡ to_bits binary64 o.length
    → Puts (bytes "MOVES " ++ decimal_of o.moves) p q → Puts (bytes "\nRAPID ") q r → Puts (hex_of bits) r t
    → Puts (bytes "\n") t u
    → Puts (outcome_lines o) p u
unfolding outcome_lines
outcome_put o bits p q r t u b e f g h = rw (← b) (put_on _ _ p t u (put_on _ _ p r t (put_on _ _ p q r e f) g) h)

pub refusal_put : (w : Refusal) (p q r t : Lent) → Puts (bytes "REFUSED " ++ decimal_of w.number) p q
    → Puts (bytes " AT " ++ decimal_of w.place) q r → Puts (bytes "\n") r t → Puts (refusal_line w) p t
unfolding refusal_line
refusal_put w p q r t e f g = put_on _ _ p r t (put_on _ _ p q r e f) g

pub tour-put : (s tour : List ℕ) (o : Outcome) (p q r t : Lent) → Puts (head_line s) p q
    → Puts (stop_lines s tour) q r → Puts (outcome_lines o) r t → Puts (tour_lines s tour o) p t
unfolding tour_lines
tour-put s tour o p q r t e f g = put_on _ _ p r t (put_on _ _ p q r e f) g

-- ---- the stops

stops_last : (s tour : List ℕ) (a : ℕ) → stop_lines s (tour ++ (a ∷ [])) ≡ stop_lines s tour ++ stop_line s a
unfolding stop_lines
stops_last s [] a = append-nil (stop_line s a)
stops_last s (b ∷ tour) a =
    ap (λ (l : List ℕ). stop_line s b ++ l) (stops_last s tour a)
    ∙ sym (append_assoc (stop_line s b) (stop_lines s tour) (stop_line s a))

line_is : (s : List ℕ) → check_of s ≡ Ok tt → (all : Instance) → all ≡ instance_of s → (a : ℕ) (place : Local)
    → place ≡ place_in all a → place_line s place ≡ stop_line s a
unfolding stop_line
line_is s fine all is a place w = ap (place_line s) (w ∙ place_on_lem s fine all is a)

-- one stop more of a tour
pub stop_more : (s : List ℕ) → check_of s ≡ Ok tt → (all : Instance) → all ≡ instance_of s
    → (tour : List ℕ) (i : ℕ) (place : Local) (p q r : Lent) → i < length tour → place ≡ place_in all (get_or tour i 0)
    → Puts (stop_lines s (take i tour)) p q → Puts (place_line s place) q r
    → Puts (stop_lines s (take (i + 1) tour)) p r
stop_more s fine all is tour i place p q r h w e f =
    let more : take i tour ++ (get_or tour i 0 ∷ []) ≡ take (i + 1) tour = rw (add-one, take-suc tour i 0) in
    put_as _ _ p r (put_on _ _ p q r e f)
    (ap (λ (l : List ℕ). stop_lines s (take i tour) ++ l) (line_is s fine all is (get_or tour i 0) place w)
    ∙ sym (stops_last s (take i tour) (get_or tour i 0)) ∙ ap (stop_lines s) more)

pub all_stops : (s tour : List ℕ) (i : ℕ) (p q : Lent) → Puts (stop_lines s (take i tour)) p q → length tour ≤ i
    → Puts (stop_lines s tour) p q
all_stops s tour i p q e h = put_as _ _ p q e (ap (stop_lines s) (take_all i tour h))
