-- Laws of a reversed stretch, for lists of any length: twice is back, stretches apart from one another commute,
-- and a stretch within another is carried to its mirror image. Assumes nothing.
use mathlib.Core.List.{List, ◌++◌, append_assoc}
use mathlib.Core.Path.{◌≡◌, sym, ap, ◌∙◌}
use Prim.Native.Nat.{ℕ, ◌+◌, ◌-◌, ◌≤◌}
use native.Mathlib.Omega.{arith}
use lib.ListN.{length, take, drop, length-append, length-drop, length-reverse, take-append-drop}
use lib.Seq.{length-take-le, take-append_seam, drop-append_seam, take-append-add, drop-append-add}
use Rattle.std.specs.Prelude.{reverse}
use Rattle.std.proofs.lemmas.List.{reverse-reverse, reverse-append, take-take}
use Rattle.improve.specs.Search.{slice, turned}

-- a stretch keeps its length
pub length-rev : (b : List ℕ) → length (reverse b) ≡ length b
length-rev b = length-reverse b

-- a list with a stretch b between a and c: that stretch is reversed
pub turned_parts : (a b c : List ℕ) (f t : ℕ) → length a ≡ f → length a + length b ≡ t
    → turned f t (a ++ (b ++ c)) ≡ a ++ (reverse b ++ c)
unfolding turned slice
turned_parts a b c f t ef et =
    rw (
      ← ef,
      ← et,
      take-append_seam a (b ++ c),
      take-append-add a (b ++ c) (length b),
      take-append_seam b c,
      drop-append_seam a b,
      drop-append-add a (b ++ c) (length b),
      drop-append_seam b c,
    )

split : (l : List ℕ) (f t : ℕ) → f ≤ t → l ≡ take f l ++ (slice f t l ++ drop t l)
unfolding slice
split l f t h =
    sym (take-append-drop t l) ∙ ap (λ (x : List ℕ). x ++ drop t l) (sym (take-append-drop f (take t l)))
    ∙ append_assoc (take f (take t l)) (drop f (take t l)) (drop t l)
    ∙ ap (λ (x : List ℕ). x ++ (drop f (take t l) ++ drop t l)) (take-take f t l h)

-- a list taken apart around its stretch from f to t
pub record Parts (f t : ℕ) (l : List ℕ) : Type 0 where
  pub front : List ℕ
  pub middle : List ℕ
  pub back : List ℕ
  pub joined : l ≡ front ++ (middle ++ back)
  pub starts : length front ≡ f
  pub ends : length front + length middle ≡ t

pub parts : (f t : ℕ) (l : List ℕ) → f ≤ t → t ≤ length l → Parts f t l
unfolding slice
parts f t l h g = record {
  front = take f l;
  middle = slice f t l;
  back = drop t l;
  joined = split l f t h;
  starts = length-take-le f l (omega arith);
  ends = let e : length (take f l) ≡ f = length-take-le f l (omega arith) in
      let k : length (take t l) ≡ t = length-take-le t l g in
      let d : length (drop f (take t l)) ≡ length (take t l) - f = length-drop f (take t l) in
      omega arith;
}

-- the length stays
pub length-turned : (f t : ℕ) (l : List ℕ) → f ≤ t → t ≤ length l → length (turned f t l) ≡ length l
length-turned f t l h g = go (parts f t l h g)
  where
    go : Parts f t l → length (turned f t l) ≡ length l
    go p =
        let e : turned f t l ≡ p.front ++ (reverse p.middle ++ p.back) =
        ap (turned f t) p.joined ∙ turned_parts p.front p.middle p.back f t p.starts p.ends in
        rw (e, p.joined) (simp (length-append, length-rev))

-- reversed twice, a stretch is as it was
pub turned_twice : (f t : ℕ) (l : List ℕ) → f ≤ t → t ≤ length l → turned f t (turned f t l) ≡ l
turned_twice f t l h g = go (parts f t l h g)
  where
    go : Parts f t l → turned f t (turned f t l) ≡ l
    go p =
        let a = p.front in
        let b = p.middle in
        let c = p.back in
        let once : turned f t l ≡ a ++ (reverse b ++ c) =
        ap (turned f t) p.joined ∙ turned_parts a b c f t p.starts p.ends in
        let n : length (reverse b) ≡ length b = length-rev b in
        let again : turned f t (a ++ (reverse b ++ c)) ≡ a ++ (reverse (reverse b) ++ c) =
        turned_parts a (reverse b) c f t p.starts (rw n p.ends) in
        ap (turned f t) once ∙ again ∙ ap (λ (x : List ℕ). a ++ (x ++ c)) (reverse-reverse b) ∙ sym p.joined

-- ---- stretches apart from one another

apart : (a b c d e : List ℕ) (f t g u : ℕ) → length a ≡ f → length a + length b ≡ t → length (a ++ (b ++ c)) ≡ g
    → length (a ++ (b ++ c)) + length d ≡ u
    → turned f t (turned g u ((a ++ (b ++ c)) ++ (d ++ e))) ≡ turned g u (turned f t ((a ++ (b ++ c)) ++ (d ++ e)))
apart a b c d e f t g u ef et eg eu =
    let w : length (a ++ (reverse b ++ c)) ≡ length (a ++ (b ++ c)) = simp (length-append, length-rev) in
    let one : turned g u ((a ++ (b ++ c)) ++ (d ++ e)) ≡ a ++ (b ++ (c ++ (reverse d ++ e))) =
    turned_parts (a ++ (b ++ c)) d e g u eg eu ∙ simp append_assoc in
    let two : turned f t ((a ++ (b ++ c)) ++ (d ++ e)) ≡ (a ++ (reverse b ++ c)) ++ (d ++ e) =
    ap (turned f t) (regroup a b c (d ++ e)) ∙ turned_parts a b (c ++ (d ++ e)) f t ef et
    ∙ sym (regroup a (reverse b) c (d ++ e)) in
    ap (turned f t) one
    ∙ turned_parts a b (c ++ (reverse d ++ e)) f t ef et
    ∙ sym (ap (turned g u) two ∙ turned_parts (a ++ (reverse b ++ c)) d e g u (w ∙ eg) (rw w eu)
    ∙ regroup a (reverse b) c (reverse d ++ e))
  where
    regroup : (x y z v : List ℕ) → (x ++ (y ++ z)) ++ v ≡ x ++ (y ++ (z ++ v))
    regroup x y z v = simp append_assoc

-- stretches that do not meet may be reversed in either order
pub turned_apart : (f t g u : ℕ) (l : List ℕ) → f ≤ t → t ≤ g → g ≤ u → u ≤ length l
    → turned f t (turned g u l) ≡ turned g u (turned f t l)
turned_apart f t g u l ft tg gu ul = go (parts g u l gu ul)
  where
    go : Parts g u l → turned f t (turned g u l) ≡ turned g u (turned f t l)
    go p = within (parts f t p.front ft (rw p.starts tg))
      where
        within : Parts f t p.front → turned f t (turned g u l) ≡ turned g u (turned f t l)
        within q =
            let e : l ≡ (q.front ++ (q.middle ++ q.back)) ++ (p.middle ++ p.back) =
            p.joined ∙ ap (λ (x : List ℕ). x ++ (p.middle ++ p.back)) q.joined in
            rw e
            (apart q.front q.middle q.back p.middle p.back f t g u q.starts q.ends
            (rw (← q.joined) p.starts) (rw (← q.joined) p.ends))

-- ---- a stretch within another

nested : (a b c d e : List ℕ) (f t g u x y : ℕ) → length a ≡ f → length a + length (b ++ (c ++ d)) ≡ t
    → length (a ++ b) ≡ g → length (a ++ b) + length c ≡ u
    → length (a ++ reverse d) ≡ x → length (a ++ reverse d) + length (reverse c) ≡ y
    → turned f t (turned g u (a ++ ((b ++ (c ++ d)) ++ e))) ≡ turned x y (turned f t (a ++ ((b ++ (c ++ d)) ++ e)))
nested a b c d e f t g u x y ef et eg eu ex ey =
    let m : length (b ++ (reverse c ++ d)) ≡ length (b ++ (c ++ d)) = simp (length-append, length-rev) in
    let one : turned g u (a ++ ((b ++ (c ++ d)) ++ e)) ≡ a ++ ((b ++ (reverse c ++ d)) ++ e) =
    ap (turned g u) (inward a b c d e) ∙ turned_parts (a ++ b) c (d ++ e) g u eg eu ∙ sym (inward a b (reverse c) d e) in
    let two : turned f t (a ++ ((b ++ (c ++ d)) ++ e)) ≡ (a ++ reverse d) ++ (reverse c ++ (reverse b ++ e)) =
    turned_parts a (b ++ (c ++ d)) e f t ef et ∙ ap (λ (z : List ℕ). a ++ (z ++ e)) (flipped b c d)
    ∙ mirrored a (reverse d) (reverse c) (reverse b) e in
    ap (turned f t) one
    ∙ turned_parts a (b ++ (reverse c ++ d)) e f t ef (rw m et)
    ∙ ap (λ (z : List ℕ). a ++ (z ++ e)) (flipped b (reverse c) d)
    ∙ mirrored a (reverse d) (reverse (reverse c)) (reverse b) e
    ∙ sym (ap (turned x y) two ∙ turned_parts (a ++ reverse d) (reverse c) (reverse b ++ e) x y ex ey)
  where
    inward : (p q r s v : List ℕ) → p ++ ((q ++ (r ++ s)) ++ v) ≡ (p ++ q) ++ (r ++ (s ++ v))
    inward p q r s v = simp append_assoc

    flipped : (p q r : List ℕ) → reverse (p ++ (q ++ r)) ≡ (reverse r ++ reverse q) ++ reverse p
    flipped p q r = reverse-append p (q ++ r) ∙ ap (λ (z : List ℕ). z ++ reverse p) (reverse-append q r)

    mirrored : (p q r s v : List ℕ) → p ++ (((q ++ r) ++ s) ++ v) ≡ (p ++ q) ++ (r ++ (s ++ v))
    mirrored p q r s v = simp append_assoc

-- reversed before the stretch around it, a stretch is where its mirror image is when that is reversed after
pub turned_nested : (f g u t : ℕ) (l : List ℕ) → f ≤ g → g ≤ u → u ≤ t → t ≤ length l
    → turned f t (turned g u l) ≡ turned (f + t - u) (f + t - g) (turned f t l)
turned_nested f g u t l fg gu ut tl = go (parts f t l (omega arith) tl)
  where
    go : Parts f t l → turned f t (turned g u l) ≡ turned (f + t - u) (f + t - g) (turned f t l)
    go p = within (parts (g - f) (u - f) p.middle (omega arith) (omega (arith, p.starts, p.ends)))
      where
        within : Parts (g - f) (u - f) p.middle
            → turned f t (turned g u l) ≡ turned (f + t - u) (f + t - g) (turned f t l)
        within q =
            let a = p.front in
            let b = q.front in
            let c = q.middle in
            let d = q.back in
            let e : l ≡ a ++ ((b ++ (c ++ d)) ++ p.back) =
            p.joined ∙ ap (λ (z : List ℕ). a ++ (z ++ p.back)) q.joined in
            let n : length p.middle ≡ length b + (length c + length d) =
            ap length q.joined ∙ simp length-append in
            rw e
            (nested a b c d p.back f t g u (f + t - u) (f + t - g) p.starts (rw (← q.joined) p.ends)
            (simp length-append (omega (arith, p.starts, q.starts)))
            (simp length-append (omega (arith, p.starts, q.starts, q.ends)))
            (simp (length-append, length-rev) (omega (arith, p.starts, p.ends, q.starts, q.ends)))
            (simp (length-append, length-rev) (omega (arith, p.starts, p.ends, q.starts, q.ends))))
