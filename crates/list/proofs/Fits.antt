-- No list is longer than its page. Assumes nothing.
use Rattle.std.specs.Prelude.{Err, Ok}
use mathlib.Core.Path.{◌≡◌, refl, ap, ◌∙◌}
use mathlib.Core.List.{List, [], ◌∷◌, ◌++◌}
use Prim.Native.Nat.{ℕ, zero, suc, ◌+◌, ◌*◌, ◌/◌, ◌%◌, ◌^◌, ◌≤◌, ◌<◌, min}
use native.Mathlib.Decide.{dec_le}
use native.Mathlib.Nat.{lt_of_not-le, sub-le, pow-suc, div-lt_iff_lt-mul}
use native.Mathlib.Omega.{arith}
use lib.Dec.{lit≤}
use lib.Ieee.{to_bits, binary64}
use lib.ListN.{length, take, length-append}
use borrow.Author.Tests.{lt-ltb, le-ltb}
use Rattle.answer.specs.Answer.{Check}
use Rattle.answer.specs.declared.CutDirection.{CutDirection}
use Rattle.answer.specs.declared.CutDirection.TheVariants.{Ccw, Cw}
use Rattle.answer.specs.declared.Refusal.{Refusal}
use Rattle.block.specs.Field.{u32_at}
use Rattle.block.proofs.FieldLaws.{u32_bytes}
use Rattle.closure.specs.Limits.{contour_limit}
use Rattle.io.specs.Digits.{hex_digit_ascii, last_digits}
use Rattle.fields.specs.Layout.{payload, job_of, contours_of, id_of, tag_of}
use Rattle.card.specs.Verdict.{check_of}
use Rattle.card_laws.proofs.Facts.{accepted}
use Rattle.instance.specs.Gather.{way_of}
use Rattle.instance.proofs.FineLaws.{few_candidates}
use Rattle.solve.specs.declared.Outcome.{Outcome}
use Rattle.questions.specs.declared.Local.{Local}
use Rattle.instance.specs.Search.{count_on}
use Rattle.tour.specs.Search.{tour_on, outcome_on}
use Rattle.questions.specs.Index.{place_on}
use Rattle.tour_laws.specs.Visits.{AllBelow}
use Rattle.tour_laws.proofs.TourLaws.{tour_long, tour-among}
use Rattle.text.specs.Page.{over}
use Rattle.text.specs.Text.{bytes, decimal_in, decimal_of, hex_of}
use Rattle.list.specs.Lines.{head_line, way_word, name_words, place_line, stop_line, stop_lines, outcome_lines}
use Rattle.list.specs.Lines.{tour_lines, refusal_line, list_unless, list_of}
use Rattle.list.specs.Fits.{OfBytes, head_longest, stop_longest, outcome_longest, longest, Fits, Whole}

-- ---- numbers

one_digit : (most n : ℕ) → n < 10 → length (decimal_in (suc most) n) ≡ 1
unfolding decimal_in
one_digit most n h = rw (lt-ltb n 10 h)

more_digits : (most n : ℕ) → 10 ≤ n → length (decimal_in (suc most) n) ≡ length (decimal_in most (n / 10)) + 1
unfolding decimal_in
more_digits most n h = rw (le-ltb n 10 h) (length-append (decimal_in most (n / 10)) (hex_digit_ascii (n % 10) ∷ []))

-- a number below a power of ten has no more digits than that power
Short : ℕ → Type 0
Short most = (k n : ℕ) → n < 10 ^ suc k → length (decimal_in most n) ≤ suc k

shorter : (most : ℕ) → Short most → (k n : ℕ) → n < 10 ^ suc k → 10 ≤ n → length (decimal_in (suc most) n) ≤ suc k
unfolding Short
shorter most further zero n h l = absurd (let g : n < 10 = h in omega arith)
shorter most further (suc k) n h l =
    let less : n / 10 < 10 ^ suc k =
    (div-lt_iff_lt-mul {k = 10} {x = n} {y = 10 ^ suc k} (lit≤ tt)).1 (rw (← pow-suc 10 (suc k)) h) in
    omega (arith, further k (n / 10) less, more_digits most n l)

decimal_short : (most : ℕ) → Short most
unfolding Short decimal_in
decimal_short zero = λ k n h. omega arith
decimal_short (suc most) =
    λ k n h. elim (dec_le 10 n) [
      | yes l ↦ shorter most (decimal_short most) k n h l
      | no l ↦
          (let e = one_digit most n (lt_of_not-le l) in omega arith)
    ]

decimal_cut : (most n : ℕ) → length (decimal_in most n) ≤ most
unfolding decimal_in
decimal_cut zero n = omega arith
decimal_cut (suc most) n =
    let f = decimal_cut most (n / 10) in
    elim (dec_le 10 n) [
      | yes l ↦ omega (arith, more_digits most n l)
      | no l ↦
          (let e = one_digit most n (lt_of_not-le l) in omega arith)
    ]

-- below ten to the k + 1, and at all
below : (k n : ℕ) → n < 10 ^ suc k → length (decimal_of n) ≤ suc k
unfolding decimal_of Short
below k n h = decimal_short 20 k n h

at_all : (n : ℕ) → length (decimal_of n) ≤ 20
unfolding decimal_of
at_all n = decimal_cut 20 n

digits_long : (b k n : ℕ) → length (last_digits b k n) ≡ k
digits_long b zero n = refl
digits_long b (suc k) n = let f =
    digits_long b k (n / b) in omega (arith, length-append (last_digits b k (n / b)) (hex_digit_ascii (n % b) ∷ []))

hex_long : (n : ℕ) → length (hex_of n) ≤ 16
unfolding hex_of
hex_long n = let e = digits_long 16 16 n in omega arith

-- ---- words

joined : (a b : List ℕ) (m n : ℕ) → length a ≤ m → length b ≤ n → length (a ++ b) ≤ m + n
joined a b m n h l = omega (arith, length-append a b)

way_short : (d : CutDirection) → length (way_word d) ≤ 5
unfolding way_word
way_short Ccw = lit≤ tt
way_short Cw = lit≤ tt

module _ (s : List ℕ) (of_bytes : OfBytes s) where
  u32_short : (at : ℕ) → length (decimal_of (u32_at s at)) ≤ 10
  u32_short at =
      below 9 (u32_at s at) (omega (
        arith,
        u32_bytes s at,
        of_bytes at,
        of_bytes (at + 1),
        of_bytes (at + 2),
        of_bytes
            (at + 3),
      ))

  head_short : contours_of s < 10 ^ 2 → length (head_line s) ≤ head_longest
  unfolding head_line
  head_short few =
      joined (bytes "JOB " ++ decimal_of (job_of s) ++ (bytes " CONTOURS " ++ decimal_of (contours_of s))) (bytes "\n") 26 1
      (joined (bytes "JOB " ++ decimal_of (job_of s)) (bytes " CONTOURS " ++ decimal_of (contours_of s)) 14 12
      (joined (bytes "JOB ") (decimal_of (job_of s)) 4 10 (lit≤ tt) (u32_short (payload 0 + 0)))
      (joined (bytes " CONTOURS ") (decimal_of (contours_of s)) 10 2 (lit≤ tt) (below 1 (contours_of s) few)))
      (lit≤ tt)

  name_short : (k : ℕ) → length (name_words s k) ≤ 21
  unfolding name_words
  name_short k =
      joined (decimal_of (id_of s k)) (bytes " " ++ decimal_of (tag_of s k)) 10 11 (u32_short (payload (k + 1) + 0))
      (joined (bytes " ") (decimal_of (tag_of s k)) 1 10 (lit≤ tt) (u32_short (payload (k + 1) + 4)))

  place_short : (p : Local) → p.within < 10 ^ 2 → length (place_line s p) ≤ stop_longest
  unfolding place_line
  place_short p few =
      joined (name_words s p.contour ++ (bytes " " ++ decimal_of p.within)) (way_word (way_of s p.contour)) 24 5
      (joined (name_words s p.contour) (bytes " " ++ decimal_of p.within) 21 3 (name_short p.contour)
      (joined (bytes " ") (decimal_of p.within) 1 2 (lit≤ tt) (below 1 p.within few)))
      (way_short (way_of s p.contour))

  stop_short : (a : ℕ) → a < 10 ^ 2 → length (stop_line s a) ≤ stop_longest
  unfolding stop_line
  stop_short a few = place_short (place_on s a) (let l : (place_on s a).within ≤ a = sub-le a _ in omega arith)

  stops_short : (t : ℕ) (tour : List ℕ) → t ≤ 10 ^ 2 → AllBelow t tour
      → length (stop_lines s tour) ≤ stop_longest * length tour
  unfolding stop_lines AllBelow
  stops_short t [] few h = omega arith
  stops_short t (a ∷ tour) few h =
      let l : a < t = h.0 in
      let f = stops_short t tour few h.1 in
      omega (arith, stop_short a (omega arith), length-append (stop_line s a) (stop_lines s tour))

outcome_short : (o : Outcome) → length (outcome_lines o) ≤ outcome_longest
unfolding outcome_lines
outcome_short o =
    let bits = to_bits binary64 o.length in
    joined (bytes "MOVES " ++ decimal_of o.moves ++ bytes "\nRAPID " ++ hex_of bits) (bytes "\n") 49 1
    (joined (bytes "MOVES " ++ decimal_of o.moves ++ bytes "\nRAPID ") (hex_of bits) 33 16
    (joined (bytes "MOVES " ++ decimal_of o.moves) (bytes "\nRAPID ") 26 7
    (joined (bytes "MOVES ") (decimal_of o.moves) 6 20 (lit≤ tt) (at_all o.moves))
    (lit≤ tt))
    (hex_long bits))
    (lit≤ tt)

refusal_short : (r : Refusal) → length (refusal_line r) ≤ 53
unfolding refusal_line
refusal_short r =
    joined (bytes "REFUSED " ++ decimal_of r.number ++ (bytes " AT " ++ decimal_of r.place)) (bytes "\n") 52 1
    (joined (bytes "REFUSED " ++ decimal_of r.number) (bytes " AT " ++ decimal_of r.place) 28 24
    (joined (bytes "REFUSED ") (decimal_of r.number) 8 20 (lit≤ tt) (at_all r.number))
    (joined (bytes " AT ") (decimal_of r.place) 4 20 (lit≤ tt) (at_all r.place)))
    (lit≤ tt)

-- ---- the list

tour_short : (s : List ℕ) → OfBytes s → check_of s ≡ Ok tt → length (tour_lines s (tour_on s) (outcome_on s)) ≤ longest
unfolding tour_lines
tour_short s of_bytes fine =
    let few = (accepted s fine).few_contours in
    let long = tour_long s fine in
    let most = few_candidates s fine in
    let stops = stops_short s of_bytes (count_on s) (tour_on s) (omega arith) (tour-among s fine) in
    let all =
    joined (head_line s ++ stop_lines s (tour_on s)) (outcome_lines (outcome_on s))
    (head_longest + stop_longest * contour_limit) outcome_longest
    (joined (head_line s) (stop_lines s (tour_on s)) head_longest (stop_longest * contour_limit)
    (head_short s of_bytes (omega arith)) (omega arith))
    (outcome_short (outcome_on s)) in
    omega arith

pub list_fits : Fits
unfolding list_of
list_fits s of_bytes = go (check_of s) refl
  where
    go : (c : Check) → check_of s ≡ c → length (list_unless c s) ≤ longest
    go (Ok _) e = tour_short s of_bytes e
    go (Err r) e = let l = refusal_short r in omega arith

-- a page that is long enough holds all of a text
all_laid : (text held : List ℕ) → length text ≤ length held → take (length text) (over text held) ≡ text
unfolding over
all_laid [] held h = refl
all_laid (b ∷ text) [] h = absurd (omega arith)
all_laid (b ∷ text) (x ∷ held) h = ap (λ (l : List ℕ). b ∷ l) (all_laid text held (omega arith))

module _ (s held : List ℕ) (of_bytes : OfBytes s) (room : longest ≤ length held) where
  counted : min (length (list_of s)) (length held) ≡ length (list_of s)
  counted = let fits = list_fits s of_bytes in omega arith

  pub whole_list : (after : List ℕ) (n : ℕ) → after ≡ over (list_of s) held → n ≡ min (length (list_of s)) (length held)
      → (take n after ≡ list_of s) × (n ≡ length (list_of s))
  whole_list after n e k =
      let fits = list_fits s of_bytes in
      (rw (k, counted, e) (all_laid (list_of s) held (omega arith)), k ∙ counted)

pub list_whole : Whole
list_whole s held of_bytes room =
    (whole_list s held of_bytes room (over (list_of s) held) (min (length (list_of s)) (length held)) refl refl).0
