-- Every door passes the card's own refusal on, and has no other of its numbers. Assumes nothing.
use Rattle.std.specs.Prelude.{Err, None, Ok, Some}
use mathlib.Core.Path.{◌≡◌, refl, sym, ap, ◌∙◌, subst}
use mathlib.Core.Logic.{◌⊎◌, inl, inr}
use mathlib.Core.Bool.{Bool, true, false, not}
use mathlib.Core.List.{List, [], ◌∷◌}
use Prim.Native.Nat.{ℕ, ◌+◌, ◌*◌, ◌^◌, ◌/◌}
use native.Mathlib.Omega.{arith}
use lib.Dec.{leb, ltb, eqb}
use lib.Ieee.{Float}
use lib.ListN.{length, get_or}
use Rattle.answer.specs.declared.Refusal.{Refusal}
use Rattle.answer.specs.Answer.{Answer, Check, Found, unless}
use Rattle.questions.specs.declared.Local.{Local}
use Rattle.answer.specs.Code.{code_of}
use Rattle.answer.specs.Lowest.{refuse_at, refuse_if}
use Rattle.answer.specs.Stage.{first_refusal}
use Rattle.answer.proofs.CodeLaws.{code-number}
use Rattle.candidates.specs.Generate.{blank}
use Rattle.fields.specs.Layout.{contours_of}
use Rattle.card.specs.Verdict.{check_of}
use Rattle.card_laws.proofs.Verdicts.{exactly}
use Rattle.improve.specs.Search.{length_in}
use Rattle.instance.specs.Search.{candidates_on, count_on, owners_on, firsts_on, chart_on}
use Rattle.tour.specs.Tour.{Left, left, room_check, tour_check, tour_check_within, toured, toured_unless, tour_of, tour_within}
use Rattle.tour.proofs.DoorLaws.{tour-refused}
use Rattle.feed.specs.declared.Feed.{Feed}
use Rattle.feed.specs.Feed.{ended, Reply, ask_of}
use Rattle.feed_laws.specs.Whole.{Intact, Run}
use Rattle.feed_laws.proofs.Whole.{whole}
use Rattle.questions.specs.Order.{first_bad_stop, order_check, evaluated}
use Rattle.questions.specs.Index.{number_check, picked_of, place_on, located_of, size_on}
use Rattle.questions.specs.Index.{local_check, global_of}
use Rattle.answer.specs.Room.{listed}
use Rattle.closure.specs.Limits.{contour_limit}
use Rattle.questions.specs.Nearest.{nearest_on, nearest_of}
use Rattle.questions.proofs.OrderLaws.{order_refused}
use Rattle.questions.proofs.IndexLaws.{candidate-refused, place_refused, global_refused}
use Rattle.questions.proofs.NearestLaws.{stops-refused}
use Rattle.list.specs.Lines.{head_line, tour_lines, refusal_line, list_unless, list_of}
use Rattle.host.specs.Hosts.{hosted, host_check, hosted_unless, host_tour, pointed, host_place}
use Rattle.host.specs.Feeds.{number_of, HostAsked, host_asked, host_ask}
use Rattle.host.proofs.BoundLaws.{check_near}
use Rattle.host.proofs.Pieces.{pieces}
use Rattle.demands.specs.Doors.{refused_line, one_number, PassedOn, OwnOnly, Doors}

-- ---- the card goes back

module _ (s : List ℕ) (r : Refusal) (e : check_of s ≡ Err r) where
  -- no place of the card's own is cut in the one number
  code_is : code_of (Err r) ≡ one_number r
  code_is = omega (arith, check_near s r e)

  list_told : list_of s ≡ refused_line r
  unfolding list_of refusal_line
  list_told = ap (λ (c : Check). list_unless c s) e

  host_told : (room : List ℕ) (moves bits : ℕ) → host_tour s room moves bits ≡ hosted (one_number r) room moves bits
  unfolding host_tour host_check first_refusal
  host_told room moves bits = rw (e, code_is)

  place_told : (candidate contour within : ℕ)
      → host_place (located_of s candidate) contour within ≡ pointed (one_number r) contour within
  place_told candidate contour within =
      rw (← place_refused s (check_of s) refl candidate r e, code_is)

  -- what was fed, as the whole
  ask-told : (f : Feed) (was : List ℕ) → Run s f was → (held room : List ℕ) (table : List Float) → Intact f was held
      → ask_of f held room table ≡ record { feed = ended f; left = left (Err r) room table }
  ask-told f was run held room table intact =
      (whole s f was run).end held room table intact
      ∙ ap (λ (l : Left). record { feed = ended f; left = l }) (sym (tour-refused s room table (check_of s) refl r e))

  fed-told : (f : Feed) (was : List ℕ) → Run s f was → (held room : List ℕ) (moves bits : ℕ) → Intact f was held
      → host_ask (number_of f) held room moves bits
      ≡ host_asked (number_of (ended f)) (hosted (one_number r) room moves bits)
  fed-told f was run held room moves bits intact =
      (pieces s f was run).end held room moves bits intact
      ∙ ap (host_asked (number_of (ended f))) (host_told room moves bits)

  -- every door answers so
  pub passed_on : PassedOn s r
  passed_on = record {
    tour = λ room table. sym (tour-refused s room table (check_of s) refl r e);
    evaluate = λ order. sym (order_refused s order (check_of s) refl r e);
    candidate = λ number. sym (candidate-refused s (check_of s) refl number r e);
    global_to_local_lem = λ number. sym (place_refused s (check_of s) refl number r e);
    local_to_global_lem = λ contour within. sym (global_refused s (check_of s) refl contour within r e);
    solve_nn_lem = sym (stops-refused s (check_of s) refl r e);
    ask = ask-told;
    write_list_lem = list_told;
    jl_check_lem = ap code_of e ∙ code_is;
    jl_tour_lem = host_told;
    jl_place_lem = place_told;
    jl_ask_lem = fed-told;
  }

-- ---- the card is sound

-- a check refuses with this number only
abbrev Only : ℕ → Check → Type 0
Only number c = (r : Refusal) → c ≡ Err r → r.number ≡ number

only_fine : (number : ℕ) (c : Check) → c ≡ Ok tt → Only number c
only_fine number c f r h = let e : (Ok tt) ≡ Err r = sym f ∙ h in let z : ◌≡◌ {A = ℕ} 0 1 = cc in absurd (omega arith)

only_if : (number : ℕ) (b : Bool) (place : ℕ) → Only number (refuse_if b number place)
only_if number true place r h =
    let e : record { number = number; place = place } ≡ r = cc in sym (ap (λ (z : Refusal). z.number) e)
only_if number false place r h = only_fine number (Ok tt) refl r h

only_at : (number : ℕ) (f : Found) → Only number (refuse_at number f)
only_at number (Some k) r h =
    let e : record { number = number; place = k } ≡ r = cc in sym (ap (λ (z : Refusal). z.number) e)
only_at number None r h = only_fine number (Ok tt) refl r h

only_both : (number : ℕ) (a b : Check) → Only number a → Only number b → Only number (first_refusal (a ∷ b ∷ []))
unfolding first_refusal
only_both number (Err q) b g h r e = g r e
only_both number (Ok _) (Err q) g h r e = h r e
only_both number (Ok _) (Ok _) g h r e = only_fine number (Ok tt) refl r e

module _ (s : List ℕ) (fine : check_of s ≡ Ok tt) where
  -- ---- each door's check

  of_tour : (entries distances : ℕ) → Only 13 (tour_check s entries distances)
  unfolding tour_check_within room_check
  of_tour entries distances =
      only_both 13 (check_of s) _ (only_fine 13 (check_of s) fine)
      (only_both 13 _ _ (only_if 13 (ltb entries (contours_of s)) (contours_of s))
      (only_if 13 (ltb distances (count_on s * count_on s)) (count_on s * count_on s)))

  of_host : (entries : ℕ) → Only 13 (host_check s entries)
  unfolding host_check
  of_host entries =
      only_both 13 (check_of s) _ (only_fine 13 (check_of s) fine)
      (only_if 13 (ltb entries (contours_of s)) (contours_of s))

  of_number : (a : ℕ) → Only 15 (number_check s a)
  unfolding number_check
  of_number a = only_both 15 (check_of s) _ (only_fine 15 (check_of s) fine) (only_if 15 (leb (count_on s) a) a)

  of_local : (k j : ℕ) → Only 15 (first_refusal (check_of s ∷ local_check s k j ∷ []))
  unfolding local_check
  of_local k j =
      only_both 15 (check_of s) _ (only_fine 15 (check_of s) fine)
      (only_both 15 _ _ (only_if 15 (leb (contours_of s) k) k) (only_if 15 (leb (size_on s k) j) j))

  of_order : (order : List ℕ)
      → Only 15 (first_refusal (check_of s ∷ order_check (contours_of s) (owners_on s) (count_on s) order ∷ []))
  unfolding order_check
  of_order order =
      only_both 15 (check_of s) _ (only_fine 15 (check_of s) fine)
      (only_both 15 _ _ (only_if 15 (not (eqb (length order) (contours_of s))) (length order))
      (only_at 15 (first_bad_stop (owners_on s) (count_on s) order)))

  -- ---- each door's answer

  tour_own : (room : List ℕ) (table : List Float) (r : Refusal) → (tour_of s room table).answer ≡ Err r
      → r.number ≡ 13
  unfolding tour_within
  tour_own room table r h = go (tour_check s (length room) (length table)) (of_tour (length room) (length table)) h
    where
      go : (c : Check) → Only 13 c → (toured_unless c (toured s room table) room table).answer ≡ Err r
          → r.number ≡ 13
      go (Err q) only h = let e : q ≡ r = cc in only r (ap Err e)
      go (Ok _) only h = let z : ◌≡◌ {A = ℕ} 0 1 = cc in absurd (omega arith)

  evaluate_own : (order : List ℕ) (r : Refusal) → evaluated s order ≡ Err r → r.number ≡ 15
  unfolding evaluated
  evaluate_own order r h = go _ (of_order order) h
    where
      go : (c : Check) → Only 15 c → unless c (length_in (chart_on s) order) ≡ Err r
          → r.number ≡ 15
      go (Err q) only h = let e : q ≡ r = cc in only r (ap Err e)
      go (Ok _) only h = let z : ◌≡◌ {A = ℕ} 0 1 = cc in absurd (omega arith)

  candidate_own : (number : ℕ) (r : Refusal) → picked_of s number ≡ Err r → r.number ≡ 15
  unfolding picked_of
  candidate_own number r h = go (number_check s number) (of_number number) h
    where
      go : (c : Check) → Only 15 c → unless c (get_or (candidates_on s) number blank) ≡ Err r
          → r.number ≡ 15
      go (Err q) only h = let e : q ≡ r = cc in only r (ap Err e)
      go (Ok _) only h = let z : ◌≡◌ {A = ℕ} 0 1 = cc in absurd (omega arith)

  located_own : (number : ℕ) (r : Refusal) → located_of s number ≡ Err r → r.number ≡ 15
  unfolding located_of
  located_own number r h = go (number_check s number) (of_number number) h
    where
      go : (c : Check) → Only 15 c → unless c (place_on s number) ≡ Err r → r.number ≡ 15
      go (Err q) only h = let e : q ≡ r = cc in only r (ap Err e)
      go (Ok _) only h = let z : ◌≡◌ {A = ℕ} 0 1 = cc in absurd (omega arith)

  global_own : (contour within : ℕ) (r : Refusal) → global_of s contour within ≡ Err r → r.number ≡ 15
  unfolding global_of
  global_own contour within r h = go _ (of_local contour within) h
    where
      go : (c : Check) → Only 15 c → unless c (get_or (firsts_on s) contour 0 + within) ≡ Err r
          → r.number ≡ 15
      go (Err q) only h = let e : q ≡ r = cc in only r (ap Err e)
      go (Ok _) only h = let z : ◌≡◌ {A = ℕ} 0 1 = cc in absurd (omega arith)

  nearest_own : nearest_of s ≡ Ok (listed contour_limit 0 (nearest_on s))
  unfolding nearest_of
  nearest_own = rw fine

  -- a list begins with J, a refusal's line with R
  list_own : (r : Refusal) → list_of s ≡ refused_line r → ⊥
  unfolding list_of tour_lines head_line
  list_own r h =
      let first : ◌≡◌ {A = ℕ} 74 82 =
      ap (λ (c : Check). get_or (list_unless c s) 0 0) (sym fine) ∙ ap (λ (l : List ℕ). get_or l 0 0) h in
      absurd (omega arith)

  host_own : (room : List ℕ) (moves bits : ℕ)
      → ((host_tour s room moves bits).answer ≡ 0) ⊎ ((host_tour s room moves bits).answer / 2 ^ 32 ≡ 13)
  unfolding host_tour
  host_own room moves bits = go (host_check s (length room)) (of_host (length room))
    where
      go : (c : Check) → Only 13 c
          → ((hosted_unless c s room moves bits).answer ≡ 0) ⊎ ((hosted_unless c s room moves bits).answer / 2 ^ 32 ≡ 13)
      go (Ok _) only = inl refl
      go (Err q) only = inr (code-number q ∙ only q refl)

  place_own : (candidate contour within : ℕ)
      → ((host_place (located_of s candidate) contour within).answer ≡ 0)
      ⊎ ((host_place (located_of s candidate) contour within).answer / 2 ^ 32 ≡ 15)
  place_own candidate contour within = go (located_of s candidate) (located_own candidate)
    where
      go : (l : Answer Local) → ((r : Refusal) → l ≡ Err r → r.number ≡ 15)
          → ((host_place l contour within).answer ≡ 0) ⊎ ((host_place l contour within).answer / 2 ^ 32 ≡ 15)
      go (Ok p) only = inl refl
      go (Err q) only = inr (code-number q ∙ only q refl)

  ask_own : (f : Feed) (was : List ℕ) → Run s f was → (held room : List ℕ) (table : List Float) → Intact f was held
      → (q : Refusal) → (ask_of f held room table).left.answer ≡ Err q → q.number ≡ 13
  ask_own f was run held room table intact q h =
      tour_own room table q
      (sym (ap (λ (a : Reply). a.left.answer) ((whole s f was run).end held room table intact)) ∙ h)

  fed_own : (f : Feed) (was : List ℕ) → Run s f was → (held room : List ℕ) (moves bits : ℕ) → Intact f was held
      → let a = (host_ask (number_of f) held room moves bits).told.answer in (a ≡ 0) ⊎ (a / 2 ^ 32 ≡ 13)
  fed_own f was run held room moves bits intact =
      subst (λ (a : ℕ). (a ≡ 0) ⊎ (a / 2 ^ 32 ≡ 13))
      (sym (ap (λ (a : HostAsked). a.told.answer) ((pieces s f was run).end held room moves bits intact)))
      (host_own room moves bits)

  own_only : OwnOnly s
  own_only = record {
    tour = tour_own;
    evaluate = evaluate_own;
    candidate = candidate_own;
    global_to_local_lem = located_own;
    local_to_global_lem = global_own;
    solve_nn_lem = nearest_own;
    ask = ask_own;
    write_list_lem = list_own;
    jl_check_lem = ap code_of fine;
    jl_tour_lem = host_own;
    jl_place_lem = place_own;
    jl_ask_lem = fed_own;
  }

pub doors : (s : List ℕ) → Doors s
doors s = record {
  passed_on = λ r g. passed_on s r ((exactly s).refused-if r g);
  own_only = λ sound. own_only s ((exactly s).fine_if sound);
}
