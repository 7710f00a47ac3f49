-- `block::bytes_at` meets its contract. Assumes nothing.
use Rattle.std.proofs.Common.{rules, ℕ, suc, zero, List, ◌≡◌, ◌+◌, ◌-◌, ◌<◌, min, get_or, length, take, drop, arith}
use Rattle.std.proofs.Common.{refl, ◌∙◌, ap, subst, length-drop}
use lib.Seq.{take_all, get_or-drop}
use borrow.Author.Tests.{tests}
use denote.Param.Members.{Mut}
use Rattle.std.specs.Fn.{Called}
use Rattle.std.specs.Array.{IsFromFnResultFrom}
use Rattle.block.specs.Field.{byte_at}
use Rattle.block.proofs.Readings.{cut_byte}
use Rattle.block.proofs.bytes_at.Goals as goal

-- a closure that stays as it is and gives t x at x fills an array with that
module _ {F : Type 0} (g : Mut F (ℕ × Unit {0}) ℕ) (t : ℕ → ℕ) (f : F)
    (each : (x y : ℕ) (q : F) → Called g f (x, tt) y q → (q ≡ f) × (y ≡ t x)) where
  filled : (ys : List ℕ) (i n j k : ℕ) (p : F) → p ≡ f → IsFromFnResultFrom g p ys i n → j < n → k ≡ i + j
      → get_or ys k 0 ≡ t k
  filled ys i zero j k p e r h at = absurd (omega arith)
  filled ys i (suc n) zero k p e (q, y, here, called, rest) h at =
      let its = each i y q (subst (λ (z : F). Called g z (i, tt) y q) e called) in
      ap (λ (x : ℕ). get_or ys x 0) (omega arith) ∙ here.1 0 ∙ its.1 ∙ ap t (omega arith)
  filled ys i (suc n) (suc j) k p e (q, y, here, called, rest) h at =
      let its = each i y q (subst (λ (z : F). Called g z (i, tt) y q) e called) in
      filled ys (i + 1) n j k q its.0 rest (omega arith) (omega arith)

-- what is left of the bytes from a place on
left : (s : List ℕ) (at m i : ℕ) → m ≡ min at (length s)
    → byte_at (take (length s - m) (drop m s)) i ≡ byte_at s (at + i)
left s at m i cut =
    ap (λ (l : List ℕ). byte_at l i) (take_all (length s - m) (drop m s) (omega (arith, length-drop m s)))
    ∙ get_or-drop m s i 0 ∙ rw cut (cut_byte s at i)

pub returns : goal.returns
returns g c i h =
    let s = c.args.s.now in
    let m = c.min.result in
    filled _ (byte_at (take (length s - m) (drop m s))) _ (λ x y q k. search (rules, tests)) _ 0 _ i i _ refl
    c.from_fn.ensures.items.each h (omega arith)
    ∙ left s c.args.at m i c.min.ensures
