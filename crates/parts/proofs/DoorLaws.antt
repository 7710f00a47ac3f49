-- What the questions and the exports answer of twins. Assumes nothing.
use Rattle.std.specs.Prelude.{Err, Ok}
use mathlib.Core.Path.{◌≡◌, refl}
use mathlib.Core.List.{List, [], ◌∷◌}
use Prim.Native.Nat.{ℕ, ◌+◌, ◌-◌}
use lib.Dec.{leb, ltb}
use lib.Ieee.{binary64, to_bits}
use lib.ListN.{length, get_or}
use Rattle.answer.specs.Answer.{Check, unless}
use Rattle.answer.specs.Lowest.{refuse_if}
use Rattle.answer.specs.Stage.{first_refusal}
use Rattle.answer.specs.Room.{placed, listed}
use Rattle.closure.specs.Limits.{contour_limit}
use Rattle.candidates.specs.Generate.{blank}
use Rattle.improve.specs.Search.{length_in}
use Rattle.questions.specs.Order.{order_check, evaluated}
use Rattle.questions.specs.Index.{number_check, picked_of, located_of, local_check, global_of}
use Rattle.questions.specs.Nearest.{nearest_in, nearest_on, nearest_of}
use Rattle.host.specs.Hosts.{hosted, host_check, hosted_unless, host_tour}
use Rattle.parts.specs.Twins.{Twins}
use Rattle.parts.proofs.ReadLaws.{same_contours}
use Rattle.parts.proofs.VerdictLaws.{same_verdict}
use Rattle.parts.proofs.SearchLaws.{same_candidates, same_owners-on, same_firsts-on, same_chart, same_end}
use Rattle.parts.proofs.SearchLaws.{same_outcome}

module _ (s t : List ℕ) (w : Twins s t) where
  -- ---- questions

  pub same_evaluated : (order : List ℕ) → evaluated s order ≡ evaluated t order
  unfolding evaluated
  same_evaluated order = λ i.
      let t_same = length (same_candidates s t w i) in
      let check = order_check (same_contours s t w i) (same_owners-on s t w i) t_same order in
      unless (first_refusal (same_verdict s t w i ∷ check ∷ [])) (length_in (same_chart s t w i) order)

  same_number : (a : ℕ) → number_check s a ≡ number_check t a
  unfolding number_check
  same_number a = λ i.
      first_refusal (same_verdict s t w i ∷ refuse_if (leb (length (same_candidates s t w i)) a) 15 a ∷ [])

  pub same_picked : (a : ℕ) → picked_of s a ≡ picked_of t a
  unfolding picked_of
  same_picked a = λ i. unless (same_number a i) (get_or (same_candidates s t w i) a blank)

  pub same_located : (a : ℕ) → located_of s a ≡ located_of t a
  unfolding located_of
  same_located a = λ i.
      let k = get_or (same_owners-on s t w i) a 0 in
      unless (same_number a i) (record { contour = k; within = a - get_or (same_firsts-on s t w i) k 0 })

  pub same_global : (k j : ℕ) → global_of s k j ≡ global_of t k j
  unfolding global_of local_check
  same_global k j = λ i.
      let first = same_firsts-on s t w i in
      let size = get_or first (k + 1) 0 - get_or first k 0 in
      unless (first_refusal (same_verdict s t w i
      ∷ first_refusal (refuse_if (leb (same_contours s t w i) k) 15 k ∷ refuse_if (leb size j) 15 j ∷ []) ∷ []))
      (get_or first k 0 + j)

  pub same_nearest : nearest_of s ≡ nearest_of t
  unfolding nearest_of nearest_on
  same_nearest = λ i.
      unless (same_verdict s t w i) (listed contour_limit 0 (nearest_in (same_chart s t w i) (same_contours s t w i)))

  -- ---- the exports

  same_hosted : (c : Check) (room : List ℕ) (moves bits : ℕ)
      → hosted_unless c s room moves bits ≡ hosted_unless c t room moves bits
  same_hosted (Err r) room moves bits = refl
  same_hosted (Ok _) room moves bits = λ i.
      let out = same_outcome s t w i in
      hosted 0 (placed (same_end s t w i).tour room) out.moves (to_bits binary64 out.length)

  pub same_host_tour : (room : List ℕ) (moves bits : ℕ) → host_tour s room moves bits ≡ host_tour t room moves bits
  unfolding host_tour host_check
  same_host_tour room moves bits = λ i.
      let n = same_contours s t w i in
      same_hosted (first_refusal (same_verdict s t w i ∷ refuse_if (ltb (length room) n) 13 n ∷ [])) room moves bits i
