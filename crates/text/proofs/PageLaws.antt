-- Texts on a page, one after the other. Assumes nothing.
use mathlib.Core.Path.{◌≡◌, refl, sym, ap, ◌∙◌}
use mathlib.Core.List.{List, [], ◌∷◌, ◌++◌, append_assoc}
use Prim.Native.Nat.{ℕ, suc, ◌+◌, ◌<◌, ◌≤◌, min}
use native.Mathlib.Numerals.{add-one}
use native.Mathlib.Omega.{arith}
use lib.ListN.{length, take, get_or, set, length-append}
use lib.Seq.{take-suc, set_at}
use borrow.Author.Tests.{lt-ltb, le-ltb}
use denote.MutBor.{MutBor}
use Rattle.text.specs.Page.{Page, paged, put_byte, put, over}
use Rattle.text.specs.OnPage.{laid, left, Puts}
use Rattle.text.specs.declared.Page.{Page as Lent}

-- a text and then another is both as one text
pub put_both : (a b : List ℕ) (p : Page) → put b (put a p) ≡ put (a ++ b) p
unfolding put
put_both [] b p = refl
put_both (x ∷ a) b p = put_both a b (put_byte x p)

-- ---- one byte

module _ (held : List ℕ) (at b : ℕ) where
  pub byte_put : at < length held → paged (at + 1) (set held at b) ≡ put_byte b (paged at held)
  unfolding put_byte
  byte_put h = rw (lt-ltb at (length held) h)

  pub byte_left : length held ≤ at → paged at held ≡ put_byte b (paged at held)
  unfolding put_byte
  byte_left h = rw (le-ltb at (length held) h)

-- one byte more of a text
pub byte_more : (text : List ℕ) (i : ℕ) (p q r : Page) → i < length text → q ≡ put (take i text) p
    → r ≡ put_byte (get_or text i 0) q → r ≡ put (take (i + 1) text) p
unfolding put
byte_more text i p q r h e f =
    let both : put (get_or text i 0 ∷ []) (put (take i text) p) ≡ put (take i text ++ (get_or text i 0 ∷ [])) p =
    put_both (take i text) (get_or text i 0 ∷ []) p in
    f ∙ ap (put_byte (get_or text i 0)) e ∙ both ∙ rw (add-one, take-suc text i 0)

-- ---- from the front of a page

over_none : (text : List ℕ) → over text [] ≡ []
unfolding over
over_none [] = refl
over_none (b ∷ text) = refl

-- after what stands before the place
put_after : (text front held : List ℕ)
    → put text (paged (length front) (front ++ held))
    ≡ paged (length front + min (length text) (length held)) (front ++ over text held)
unfolding put over
put_after [] front held = ap (λ (n : ℕ). paged n (front ++ held)) (omega arith)
put_after (b ∷ text) front [] =
    let full : length (front ++ []) ≤ length front = omega (arith, length-append front []) in
    let n : length front + min (length text) 0 ≡ length front + min (suc (length text)) 0 = omega arith in
    ap (put text) (sym (byte_left (front ++ []) (length front) b full))
    ∙ put_after text front []
    ∙ rw (n, over_none text)
put_after (b ∷ text) front (x ∷ held) =
    let room : length front < length (front ++ x ∷ held) = omega (arith, length-append front (x ∷ held)) in
    let long : length (front ++ (b ∷ [])) ≡ length front + 1 = length-append front (b ∷ []) in
    let n : length front + 1 + min (length text) (length held)
    ≡ length front + min (suc (length text)) (suc (length held)) = omega arith in
    ap (put text) (sym (byte_put (front ++ x ∷ held) (length front) b room)
    ∙ rw (set_at front x held b (length front) refl, ← long, ← append_assoc front (b ∷ []) held))
    ∙ put_after text (front ++ (b ∷ [])) held
    ∙ rw (long, n, append_assoc front (b ∷ []) (over text held))

-- ---- on a page with its slice

-- a text and then another
pub put_on : (a b : List ℕ) (p q r : Lent) → Puts a p q → Puts b q r → Puts (a ++ b) p r
put_on a b p q r e f =
    f ∙ ap (λ (z : Lent). left z (put b (laid z))) e ∙ ap (left p) (put_both a b (laid p))

-- the same text in other words
pub put_as : (a b : List ℕ) (p q : Lent) → Puts a p q → a ≡ b → Puts b p q
put_as a b p q e f = e ∙ ap (λ (text : List ℕ). left p (put text (laid p))) f

-- one byte more of a text
pub byte_on : (text : List ℕ) (i b : ℕ) (p q r : Lent) → i < length text → Puts (take i text) p q
    → b ≡ get_or text i 0 → r ≡ left q (put_byte b (laid q)) → Puts (take (i + 1) text) p r
byte_on text i b p q r h e x f =
    f ∙ ap (λ (z : Lent). left z (put_byte b (laid z))) e
    ∙ ap (left p) (byte_more text i (laid p) (put (take i text) (laid p)) _ h refl
    (ap (λ (y : ℕ). put_byte y (put (take i text) (laid p))) x))

-- a text put at the front of a page is laid over it
module _ (text : List ℕ) (p q : Lent) (front : p.at ≡ 0) (e : Puts text p q) where
  laid_over : laid q ≡ paged (min (length text) (length p.bytes.now)) (over text p.bytes.now)
  laid_over =
      let held = p.bytes.now in
      ap laid e ∙ ap (λ (at : ℕ). put text (paged at held)) front ∙ put_after text [] held
      ∙ ap (λ (n : ℕ). paged n (over text held)) (omega arith)

-- the same in other words
pub written : (a b : List ℕ) (p q : Lent) → p.at ≡ 0 → Puts a p q → a ≡ b
    → (q.bytes.now ≡ over b p.bytes.now) × (q.at ≡ min (length b) (length p.bytes.now))
written a b p q front e f =
    let l = laid_over b p q front (put_as a b p q e f) in
    (ap (λ (r : Page). r.held) l, ap (λ (r : Page). r.at) l)

-- a slice that was lent to a page at its front: where the page goes on, and the slice once the page is gone
module _ (text : List ℕ) (lent : MutBor (List ℕ)) (p q : Lent) (made : p ≡ record { bytes = lent; at = 0 })
    (put_there : Puts text p q) where
  all_of_it : (q.bytes.now ≡ over text lent.now) × (q.at ≡ min (length text) (length lent.now))
  all_of_it =
      let w = written text text p q (ap (λ (r : Lent). r.at) made) put_there refl in
      let held : p.bytes.now ≡ lent.now = ap (λ (r : Lent). r.bytes.now) made in
      (w.0 ∙ ap (over text) held, w.1 ∙ ap (λ (l : List ℕ). min (length text) (length l)) held)

  pub goes_on : q.at ≡ min (length text) (length lent.now)
  goes_on = all_of_it.1

  pub handed_back : (last : List ℕ) → (lent.ghost_name ≡ q.bytes.ghost_name → last ≡ q.bytes.now)
      → last ≡ over text lent.now
  handed_back last so =
      so (sym (ap (λ (r : Lent). r.bytes.ghost_name) put_there ∙ ap (λ (r : Lent). r.bytes.ghost_name) made))
      ∙ all_of_it.0
