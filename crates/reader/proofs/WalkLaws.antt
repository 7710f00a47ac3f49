-- One field after another: what a field reads at a place that was cut off at the end, where the next one begins, and a
-- walk that is taken one field at a time. Assumes nothing.
use mathlib.Core.Path.{◌≡◌, refl, sym, ap, ◌∙◌}
use mathlib.Core.List.{List, [], ◌∷◌, ◌++◌, append_assoc, append-nil}
use Prim.Native.Nat.{ℕ, suc, ◌+◌, ◌*◌, ◌-◌, ◌≤◌, ◌<◌, min}
use native.Mathlib.Nat.{add-zero}
use native.Mathlib.Numerals.{add-one}
use native.Mathlib.Omega.{arith}
use lib.ListN.{length, take, drop, set, replicate}
use lib.Seq.{take-suc-set, take_all}
use Rattle.std.proofs.lemmas.List.{drop-replicate}
use Rattle.block.specs.Field.{byte_at, u16_at, u32_at, u64_at}
use Rattle.block.proofs.Readings.{cut_byte, cut_u16, cut_u32, cut_u64}
use Rattle.fields.specs.Limits.{vertex_limit}
use Rattle.reader.specs.declared.Width.{Width}
use Rattle.reader.specs.declared.Width.TheVariants.{One, Two, Four, Eight}
use Rattle.reader.specs.declared.Field.{Field}
use Rattle.reader.specs.Fields.{bytes_of, value_at, field_at}
use Rattle.reader.specs.declared.Reader.{Reader}
use denote.Bor.{Bor}
use Rattle.reader.specs.Walk.{walk, eights}
use Rattle.reader.specs.OnCard.{filled}

-- ---- one field

at_zero : (f : ℕ → ℕ) (m n : ℕ) → f (m + 0) ≡ f (n + 0) → f m ≡ f n
at_zero f m n e = ap f (sym (add-zero m)) ∙ e ∙ ap f (add-zero n)

-- a place that was cut off at the end reads what the place itself reads
pub cut_value : (s : List ℕ) (a : ℕ) (w : Width) → value_at s (min a (length s)) w ≡ value_at s a w
cut_value s a One = at_zero (byte_at s) (min a (length s)) a (cut_byte s a 0)
cut_value s a Two = at_zero (u16_at s) (min a (length s)) a (cut_u16 s a 0)
cut_value s a Four = at_zero (u32_at s) (min a (length s)) a (cut_u32 s a 0)
cut_value s a Eight = at_zero (u64_at s) (min a (length s)) a (cut_u64 s a 0)

-- ---- a reader

-- a reader of s stands at p, or where p was cut off
pub record Stands (s : List ℕ) (p : ℕ) (r : Reader) : Type 0 where
  pub src_is : r.src.now ≡ s
  pub at_is : min r.at (length s) ≡ min p (length s)

-- it was made and moved there
pub stands : (src : Bor (List ℕ)) (p at : ℕ) (r₀ r : Reader) → min at (length src.now) ≡ min p (length src.now)
    → r₀ ≡ record { src = src; at = 0 } → r ≡ record { src = r₀.src; at = at } → Stands src.now p r
stands src p at r₀ r cut e f = record {
  src_is = ap (λ (x : Reader). x.src.now) f ∙ ap (λ (x : Reader). x.src.now) e;
  at_is = ap (λ (x : Reader). min x.at (length src.now)) f ∙ cut;
}

-- the next field is the one at p, and then the reader stands behind it
pub record Next (s : List ℕ) (p q : ℕ) (w : Width) (v : ℕ) (r : Reader) : Type 0 where
  pub value_is : v ≡ value_at s p w
  pub after_is : r.at ≡ min q (length s)
  pub there : Stands s q r

pub next_is : (s : List ℕ) (p q : ℕ) (w : Width) (r r' : Reader) (v : ℕ) → p + bytes_of w ≡ q → Stands s p r
    → v ≡ (field_at r.src.now r.at w).value → r' ≡ record { src = r.src; at = (field_at r.src.now r.at w).after }
    → Next s p q w v r'
next_is s p q w r r' v on here e f =
    let cut = here.at_is in
    let src : r'.src.now ≡ s = ap (λ (x : Reader). x.src.now) f ∙ here.src_is in
    let at : r'.at ≡ min (r.at + bytes_of w) (length s) =
    ap (λ (x : Reader). x.at) f ∙ ap (λ (l : List ℕ). min (r.at + bytes_of w) (length l)) here.src_is in
    record {
      value_is =
          e ∙ ap (λ (l : List ℕ). value_at l r.at w) here.src_is ∙ sym (cut_value s r.at w)
          ∙ ap (λ (x : ℕ). value_at s x w) cut ∙ cut_value s p w;
      after_is = omega arith;
      there = record { src_is = src; at_is = omega arith };
    }

-- ---- a walk

-- from a place that was cut off at the end it finds what it finds from the place itself
pub walk_cut : (s : List ℕ) (at : ℕ) (ws : List Width) → walk s (min at (length s)) ws ≡ walk s at ws
unfolding walk
walk_cut s at [] = refl
walk_cut s at (w ∷ ws) =
    let after : min (min at (length s) + bytes_of w) (length s) ≡ min (at + bytes_of w) (length s) = omega arith in
    rw (cut_value s at w, after)

-- the field at offset a from p, then the rest
pub walk-on : (s : List ℕ) (p a : ℕ) (w : Width) (ws : List Width)
    → walk s (p + a) (w ∷ ws) ≡ value_at s (p + a) w ∷ walk s (p + (a + bytes_of w)) ws
unfolding walk
walk-on s p a w ws =
    let on : p + a + bytes_of w ≡ p + (a + bytes_of w) = omega arith in
    ap (◌∷◌ (value_at s (p + a) w)) (walk_cut s (p + a + bytes_of w) ws ∙ ap (λ (x : ℕ). walk s x ws) on)

pub walk_last : (s : List ℕ) (at : ℕ) (w : Width) → walk s at (w ∷ []) ≡ value_at s at w ∷ []
unfolding walk
walk_last s at w = refl

pub walk-length : (s : List ℕ) (at : ℕ) (ws : List Width) → length (walk s at ws) ≡ length ws
unfolding walk
walk-length s at [] = refl
walk-length s at (w ∷ ws) = ap suc (walk-length s (field_at s at w).after ws)

-- ---- the loop over coordinates: i of them stand in their places, and the walk goes on from a place

walk_eight : (s : List ℕ) (at n m : ℕ) → n ≡ suc m
    → walk s at (eights n) ≡ u64_at s at ∷ walk s (min (at + 8) (length s)) (eights m)
unfolding walk
walk_eight s at n m e = rw e

pub none_yet : (s : List ℕ) (at count : ℕ) → walk s at (eights (count - 0)) ≡ walk s at (eights count)
none_yet s at count =
    let all : count - 0 ≡ count = omega arith in
    rw all

pub one_more : (s read : List ℕ) (count i place : ℕ) (f : Field) (t : List ℕ) → i < count → length read ≡ count
    → f ≡ field_at s place Eight → take i read ++ walk s place (eights (count - i)) ≡ t
    → take (i + 1) (set read i f.value) ++ walk s f.after (eights (count - (i + 1))) ≡ t
one_more s read count i place f t h long e so =
    let g : i < length read = omega arith in
    let left : count - i ≡ suc (count - (i + 1)) = omega arith in
    let rest = walk s (min (place + 8) (length s)) (eights (count - (i + 1))) in
    let took : take (i + 1) (set read i (u64_at s place)) ≡ take i read ++ (u64_at s place ∷ []) =
    rw (add-one i) (take-suc-set read i (u64_at s place) g) in
    rw (e, took, append_assoc (take i read) (u64_at s place ∷ []) rest)
    (ap (λ (l : List ℕ). take i read ++ l) (sym (walk_eight s place (count - i) (count - (i + 1)) left)) ∙ so)

walk_none : (s : List ℕ) (at n : ℕ) → n ≡ 0 → walk s at (eights n) ≡ []
unfolding walk
walk_none s at n e = rw e

pub all_read : (s read : List ℕ) (count i at place : ℕ) → count ≤ i → length read ≡ count
    → take i read ++ walk s place (eights (count - i)) ≡ walk s at (eights count)
    → read ++ drop count (replicate (2 * vertex_limit) 0) ≡ filled (walk s at (eights count))
unfolding filled
all_read s read count i at place h long e =
    let t = walk s at (eights count) in
    let none : walk s place (eights (count - i)) ≡ [] = walk_none s place (count - i) (omega arith) in
    let front : read ≡ t =
    sym (append-nil read) ∙ ap (λ (l : List ℕ). read ++ l) (sym none)
    ∙ ap (λ (l : List ℕ). l ++ walk s place (eights (count - i))) (sym (take_all i read (omega arith))) ∙ e in
    let n : length t ≡ count = ap length (sym front) ∙ long in
    rw (drop-replicate {X = ℕ} count (2 * vertex_limit) 0) (ap (λ (l : List ℕ). l ++ replicate (2 * vertex_limit - count) 0) front)
    ∙ ap (λ (m : ℕ). t ++ replicate (2 * vertex_limit - m) 0) (sym n)
