-- The exports answer as the tour's question does. Assumes nothing.
use Rattle.std.specs.Prelude.{Err, Ok}
use Rattle.std.proofs.Common.{◌≡◌, ℕ, ◌+◌, ◌-◌, ◌*◌, ◌%◌, ◌^◌, ◌<◌, ◌≤◌, min, Bool, true, false, ltb, List, [], ◌∷◌, length, sym, refl, ap, ◌∙◌, subst, true≢false, arith, le-ltb, le-leb}
use borrow.Author.Tests.{lt-leb}
use lib.Ieee.{Float}
use Rattle.answer.specs.Answer.{Answer, Check}
use Rattle.questions.specs.declared.Local.{Local}
use Rattle.solve.specs.declared.Outcome.{Outcome}
use Rattle.answer.specs.declared.Refusal.{Refusal}
use Rattle.answer.specs.Code.{code_of}
use Rattle.answer.specs.Stage.{first_refusal}
use Rattle.answer.proofs.CodeLaws.{code-number, code_place}
use Rattle.answer.specs.Lowest.{refuse_if}
use Rattle.fields.specs.Limits.{card_bytes}
use Rattle.fields.specs.Layout.{contours_of}
use Rattle.card.specs.Verdict.{check_of}
use Rattle.card_laws.specs.Table.{Given, one, two, three, four, five, three_later, six, seven, eight, nine, ten, eleven}
use Rattle.card_laws.specs.Table.{twelve}
use Rattle.card_laws.proofs.Verdicts.{exactly}
use Rattle.table.proofs.PlaceLaws.{square_small}
use Rattle.instance.proofs.FineLaws.{few_candidates}
use Rattle.instance.specs.Search.{count_on}
use Rattle.questions.specs.Index.{number_check, located_of}
use Rattle.questions.proofs.IndexLaws.{place_refused}
use Rattle.tour.specs.Tour.{tour_of}
use Rattle.host.specs.Hosts.{Hosted, host_check, hosted_unless, host_tour, host_place}
use Rattle.host.specs.Exports.{as_told, Coded, TourTold, Decodes, CardRead, NumberRead, Claim}
use Rattle.host.proofs.BoundLaws.{check_near, whole, is_whole, tour_near}

module _ (s room : List ℕ) (table : List Float) (moves bits : ℕ) where
  -- the host's answer by what the check says, and by whether the tour's room is too small
  host : Check → Bool → Hosted
  host c a = hosted_unless (first_refusal (c ∷ refuse_if a 13 (contours_of s) ∷ [])) s room moves bits

  same : (c : Check) (a b : Bool) → (c ≡ Ok tt → b ≡ false)
      → host c a ≡ as_told (whole s room table c a b).answer (whole s room table c a b).room moves bits
  unfolding host whole first_refusal
  same (Err q) a b h = refl
  same (Ok _) true b h = refl
  same (Ok _) false true h = absurd (true≢false (h refl))
  same (Ok _) false false h = refl

  host_is : host_tour s room moves bits ≡ host (check_of s) (ltb (length room) (contours_of s))
  unfolding host host_tour host_check
  host_is = refl

-- ---- the one number

-- no refusal of a card has number 0
some_number : {s : List ℕ} {number place : ℕ} → Given s number place → 0 < number
some_number (one row) = omega arith
some_number (two past row) = omega arith
some_number (three past row) = omega arith
some_number (four past row) = omega arith
some_number (five past row) = omega arith
some_number (three_later past row) = omega arith
some_number (six past row) = omega arith
some_number (seven past row) = omega arith
some_number (eight past row) = omega arith
some_number (nine past row) = omega arith
some_number (ten past row) = omega arith
some_number (eleven past row) = omega arith
some_number (twelve past row) = omega arith

zero_fine : (s : List ℕ) (c : Check) → check_of s ≡ c → code_of (check_of s) ≡ 0 → check_of s ≡ Ok tt
zero_fine s (Ok _) e z = e
zero_fine s (Err r) e z =
    let code : code_of (Err r) ≡ 0 = sym (ap code_of e) ∙ z in
    let some = some_number ((exactly s).refused_only r e) in
    let n = code-number r in
    absurd (omega arith)

place_cut : (r : Refusal) → code_of (Err r) % 2 ^ 32 ≡ min r.place (2 ^ 32 - 1)
place_cut r = omega arith

coded : Coded
coded = record {
  good = λ s. (zero_fine s (check_of s) refl, λ e. ap code_of e);
  number = code-number;
  place = place_cut;
}

-- the exported tour is the tour of the question
pub toured_so : (s : List ℕ) → TourTold s
toured_so s room table moves bits large =
    rw (is_whole s room table)
    (host_is s room table moves bits
    ∙ same s room table moves bits (check_of s) (ltb (length room) (contours_of s))
    (ltb (length table) (count_on s * count_on s))
    (λ fine. le-ltb (length table) (count_on s * count_on s)
    (let few = square_small (count_on s) (few_candidates s fine) in omega arith)))

-- ---- read back

-- a place that is not beyond the longest card's is held whole
holds : (r : Refusal) → r.place ≤ card_bytes + 1 → Decodes (code_of (Err r)) r
holds r near = record { number = code-number r; place = code_place r (omega arith) }

-- where the tour is refused, the host is told that refusal
tour-code : (t : Answer Outcome) (room : List ℕ) (moves bits : ℕ) (r : Refusal) → t ≡ Err r
    → (as_told t room moves bits).answer ≡ code_of (Err r)
tour-code t room moves bits r e = ap (λ (z : Answer Outcome). (as_told z room moves bits).answer) e

-- and so where a candidate's place is
place_code : (l : Answer Local) (contour within : ℕ) (r : Refusal) → Err r ≡ l
    → (host_place l contour within).answer ≡ code_of (Err r)
place_code l contour within r e = ap (λ (z : Answer Local). (host_place z contour within).answer) (sym e)

module _ (s : List ℕ) where
  card_read_lem : CardRead s
  card_read_lem = record {
    jl_check_lem = λ r e. subst (λ (c : Check). Decodes (code_of c) r) (sym e) (holds r (check_near s r e));
    tour = λ room table r h. holds r (tour_near s room table r h);
    jl_tour_lem = λ room table moves bits large r h.
        subst (λ (n : ℕ). Decodes n r)
        (sym (ap (λ (l : Hosted). l.answer) (toured_so s room table moves bits large)
        ∙ tour-code _ (tour_of s room table).room moves bits r h))
        (holds r (tour_near s room table r h));
    jl_place_lem = λ candidate contour within r e.
        subst (λ (n : ℕ). Decodes n r)
        (sym (place_code (located_of s candidate) contour within r
        (place_refused s (check_of s) refl candidate r e)))
        (holds r (check_near s r e));
  }

  module _ (fine : check_of s ≡ Ok tt) (candidate contour within : ℕ) where
    some_candidate : candidate < count_on s → (host_place (located_of s candidate) contour within).answer ≡ 0
    unfolding located_of number_check first_refusal
    some_candidate h = rw (fine, lt-leb (count_on s) candidate h)

    no_candidate_lem : count_on s ≤ candidate
        → Decodes (host_place (located_of s candidate) contour within).answer
        (record { number = 15; place = min candidate (2 ^ 32 - 1) })
    unfolding located_of number_check first_refusal
    no_candidate_lem h = rw (fine, le-leb (count_on s) candidate h) (record { number = omega arith; place = omega arith })

    number_read : NumberRead s candidate contour within
    number_read = record { good = some_candidate; none = no_candidate_lem }

pub claim : Claim
claim = (coded, toured_so, card_read_lem, number_read)
