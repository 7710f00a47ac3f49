-- What is wrong with a given order, as the code finds it, and how long the order is. Assumes nothing.
use Rattle.std.specs.Prelude.{Err, Ok}
use mathlib.Core.Path.{◌≡◌, refl, ap, ◌∙◌}
use mathlib.Core.List.{List, [], ◌∷◌}
use Prim.Native.Nat.{ℕ, ◌*◌}
use lib.ListN.{length, get_or, take}
use lib.Ieee.{Float}
use Rattle.answer.specs.Answer.{Answer, Check, unless}
use Rattle.answer.specs.declared.Refusal.{Refusal}
use Rattle.answer.specs.Stage.{first_refusal}
use Rattle.fields.specs.Layout.{contours_of}
use Rattle.card.specs.Verdict.{check_of}
use Rattle.card.proofs.GroupLaws.{last_stage}
use Rattle.table.specs.Distances.{entry_limit, tabled, distances_of}
use Rattle.improve.specs.Search.{length_in}
use Rattle.instance.specs.declared.Prepared.{Prepared}
use Rattle.instance.specs.Search.{count_on, owners_on, chart_on}
use Rattle.instance.specs.Prepared.{Front, PreparedOn, Fit, chart_in}
use Rattle.instance.proofs.PreparedLaws.{table_front, chart_on_lem}
use Rattle.questions.specs.Order.{stop_at, order_check}
use Rattle.questions.specs.Order.{measured_in, evaluated}

-- ---- one stop

pub stop_is : (owner order : List ℕ) (p a i k : ℕ) → a ≡ get_or order p 0 → i ≡ a → k ≡ get_or owner i 0
    → k ≡ stop_at owner order p
stop_is owner order p a i k e f g = g ∙ ap (λ (x : ℕ). get_or owner x 0) (f ∙ e)

-- ---- its length

-- the distances stand at the front of a room for the most there are
pub entries_front : (p : Prepared) → Fit p → (room after : List Float) → length room ≡ entry_limit
    → let t = p.all.count in after ≡ tabled p.all.items t (take t p.all.owner) room
    → Front (t * t) after (distances_of (take t p.all.items) (take t p.all.owner))
entries_front p f room after full e =
    let all = f.on.held in
    table_front p.all.items p.all.count all.few all.items.whole _ room after e (rw full all.few_entries)

-- ---- the answer

module _ (p : Prepared) (order : List ℕ) (a : Check)
    (is : a ≡ order_check p.all.contours (take p.all.count p.all.owner) p.all.count order) where
  pub an_order : (x : Float) → a ≡ Ok tt → x ≡ length_in (chart_in p) order
      → Ok x ≡ measured_in (chart_in p) p.all.contours order
  unfolding chart_in
  an_order x e g = rw (g, ← is, e)

module _ (s order : List ℕ) (a : Check) (is : a ≡ check_of s) where
  pub order_refused : (r : Refusal) → a ≡ Err r → Err r ≡ evaluated s order
  unfolding evaluated first_refusal
  order_refused r e = rw (← is, e)

  pub order_fine : (m : Answer Float) (p : Prepared) → a ≡ Ok tt → PreparedOn s p
      → m ≡ measured_in (chart_in p) p.all.contours order → m ≡ evaluated s order
  unfolding evaluated first_refusal chart_on
  order_fine m p e h f =
      let known = order_check (contours_of s) (owners_on s) (count_on s) order in
      let same : known ≡ first_refusal (check_of s ∷ known ∷ []) = rw (← is, e) (last_stage known known refl) in
      (f ∙ rw (chart_on_lem s p h, h.held.contours))
      ∙ ap (λ (c : Check). unless c (length_in (chart_on s) order)) same
